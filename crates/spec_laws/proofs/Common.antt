-- The names that most proofs cite, passed on from one place. Declares nothing.
pub use Rattle.adl_ast.specs.Forms.{item_line}
pub use Rattle.adl_ast.specs.declared.component.Component.{Component}
pub use Rattle.adl_ast.specs.declared.component.Interface.{Interface}
pub use Rattle.adl_ast.specs.declared.component.Member.{Member}
pub use Rattle.adl_ast.specs.declared.composition.Assembly.{Assembly}
pub use Rattle.adl_ast.specs.declared.composition.Role.{Role}
pub use Rattle.adl_ast.specs.declared.composition.Role.TheVariants.{From, To}
pub use Rattle.adl_ast.specs.declared.file.Ended.{Ended}
pub use Rattle.adl_ast.specs.declared.file.Item.{Item}
pub use Rattle.adl_ast.specs.declared.source.Source.{Source}
pub use Rattle.adl_ast.specs.declared.source.SourceFile.{SourceFile}
pub use Rattle.adl_ast.specs.declared.value.Value.{Value}
pub use Rattle.adl_hierarchy.proofs.Bodies.{body_number}
pub use Rattle.adl_hierarchy.proofs.Leading.{is_there}
pub use Rattle.adl_hierarchy.proofs.Limits.{not_passed}
pub use Rattle.adl_hierarchy.proofs.Lists.{in_get}
pub use Rattle.adl_hierarchy.proofs.Spelled.{IsOne, file_item, item_component, item_spelled, spelled_dotted}
pub use Rattle.adl_hierarchy.specs.Leads.{AreDotted}
pub use Rattle.adl_meaning.proofs.Least.{least-empty}
pub use Rattle.adl_meaning.proofs.SoundNames.{one_assembly}
pub use Rattle.adl_meaning.specs.Domains.{domain_of, domains, is_hardware}
pub use Rattle.adl_meaning.specs.Export.{default_size, same_kind}
pub use Rattle.adl_meaning.specs.Flat.{domain_number, flat_domain, flat_of, is_inside, leaf_of}
pub use Rattle.adl_meaning.specs.Hierarchy.{Body, Hierarchy, hierarchy_of}
pub use Rattle.adl_meaning.specs.Items.{as_component, assemblies, components, items_in, items_of}
pub use Rattle.adl_meaning.specs.JoinFaults.{first_flat_fault}
pub use Rattle.adl_meaning.specs.NameFaults.{AreNamesSound}
pub use Rattle.adl_meaning.specs.Paths.{leaves}
pub use Rattle.adl_meaning.specs.SizeFaults.{limit_passed}
pub use Rattle.adl_meaning.specs.Values.{value_at}
pub use Rattle.adl_meaning.specs.declared.connector.Connector.{Connector}
pub use Rattle.adl_meaning.specs.declared.connector.Connector.TheVariants.{Direct, Interrupt, Mmio, Notification, Rpc, SharedMemory}
pub use Rattle.adl_meaning.specs.declared.flat.Domain.{Domain}
pub use Rattle.adl_meaning.specs.declared.flat.Flat.{Flat}
pub use Rattle.adl_meaning.specs.declared.flat.FlatConnection.{FlatConnection}
pub use Rattle.adl_meaning.specs.declared.flat.FlatEnd.{FlatEnd}
pub use Rattle.adl_meaning.specs.declared.flat.Leaf.{Leaf}
pub use Rattle.adl_meaning.specs.declared.item_at.ItemAt.{ItemAt}
pub use Rattle.adl_meaning.specs.declared.settled.EndSetting.{EndSetting}
pub use Rattle.adl_meaning.specs.declared.settled.EndSettings.{EndSettings}
pub use Rattle.adl_meaning.specs.declared.settled.LeafSetting.{LeafSetting}
pub use Rattle.adl_meaning.specs.declared.settled.Settled.{Settled}
pub use Rattle.adl_settings.specs.Allowed.{badge_in, badge_kind, irq_in, is_badge_text, number_in, paddr_in, priority_in, size_in, sized, stack_in, whole_pages, within}
pub use Rattle.adl_settings.specs.BadValue.{bad_at_end, bad_in_connection, bad_in_leaf}
pub use Rattle.adl_settings.specs.EndMeaning.{badge_of, bytes_of, default_bytes, end_setting, irq_of, paddr_of}
pub use Rattle.adl_settings.specs.Joints.{Joint, behind, found_at, found_of, found_on, founds_in, has_badge, interface_at, is_device_event, is_device_memory, joint_at, joint_of, positioned, positioned_after}
pub use Rattle.adl_settings.specs.Meant.{bad_unless, bad_value, meaning, meant, where_set}
pub use Rattle.adl_settings.specs.Missing.{lacks_value, missing_at, missing_in}
pub use Rattle.adl_settings.specs.SettingFaults.{faults_on, first_setting_fault}
pub use Rattle.adl_settings.specs.Settled.{LeafFound, end_settings, leaf_found, leaf_setting, leaves_found, settled_of}
pub use Rattle.adl_settings.specs.declared.found.Found.{Found}
pub use Rattle.adl_types.specs.TypeFaults.{count_of, first_type_fault, is_kind_of}
pub use Rattle.arch_policy.proofs.Same.{is_object, same_role_self}
pub use Rattle.arch_policy.specs.Gives.{gives, opposite, same_object}
pub use Rattle.arch_policy.specs.Owners.{has_label, owner_in}
pub use Rattle.arch_policy.specs.Reasons.{AtOtherEnd, DirectReason, LeadsTo}
pub use Rattle.arch_policy.specs.Tables.{AreApart, connection_label, domain_label, leaf_label, number_of}
pub use Rattle.arch_policy.specs.declared.owner.Owner.{Owner}
pub use Rattle.arch_policy.specs.declared.owner.Owner.TheVariants.{OfConnection, OfDomain, OfLeaf}
pub use Rattle.authorities.specs.declared.authority.Authority.{Authority}
pub use Rattle.authorities.specs.declared.authority.Authority.TheVariants.{AsyncSend, Handle, Read, Write}
pub use Rattle.cam_base.proofs.Gathered.{flat_map-gather, from_gather, from_ones, from_place, gather_ones, gather_same, gathered, get_behind, get_front, get_ones, in_append, in_gather, in_left, in_place, in_right, length_append, place_of, split_get}
pub use Rattle.cam_base.proofs.Naming.{is_name-numbered, name_short, named_is}
pub use Rattle.cam_base.proofs.NumberedLists.{at_place, begins_with, below, below_count, found, from_enumerate, from_filter_map, from_flat_map, from_get_map, from_map, from_range, get_drop, get_map, in_any, in_filter_map, in_flat_map, in_map}
pub use Rattle.cam_base.proofs.NumberedLists.{length-gather, map_ones, map_some, none_in, none_left, none_right}
pub use Rattle.cam_base.specs.Gather.{IsIn, before, gather}
pub use Rattle.cam_base.specs.Names.{is_letter, is_name, is_word_byte, named}
pub use Rattle.cam_io.specs.Contents.{Contents}
pub use Rattle.cap_model.proofs.BootPlaces.{at_contains, at_entry, contains_at, entry_at}
pub use Rattle.cap_model.proofs.Eaches.{Each}
pub use Rattle.cap_model.specs.Auth.{Held, buffer_of}
pub use Rattle.cap_model.specs.Canonical.{arch_word, buffer_line, canonical, cap_end, elf_field, entry_line, entry_text, fill_field, frame_line, has_slot, holder_text, irq_line, irq_text, level_word, named_line, object_line, paddr_field, params}
pub use Rattle.cap_model.specs.Canonical.{slots_text, tcb_line, tcb_text}
pub use Rattle.cap_model.specs.Confers.{confers, kind_confers, option_confers}
pub use Rattle.cap_model.specs.Edges.{edge}
pub use Rattle.cap_model.specs.Kept.{IsKept, differ, fits_as, fits_kind, if_any, keeps, keeps_fill, keeps_frame, keeps_lines, keeps_slots, keeps_table, keeps_tcb, names_differ, rise}
pub use Rattle.cap_model.specs.Kinds.{is_at, is_kind, is_root_object, is_space_root, kind_at, kind_number, kind_of_object, kind_rights}
pub use Rattle.cap_model.specs.Levels.{child, is_root_level, size}
pub use Rattle.cap_model.specs.Lookup.{entry_name, entry_object, name_at, object_at}
pub use Rattle.cap_model.specs.ObjectLabels.{label_of}
pub use Rattle.cap_model.specs.State.{Node, boot, boot_irq, boot_node, boot_slot, boot_thread, irq_at, no_node, no_thread, node_at}
pub use Rattle.cap_model.specs.declared.cap.Cap.{Cap}
pub use Rattle.cap_model.specs.declared.kind.Kind.{Kind}
pub use Rattle.cap_model.specs.declared.level.Arch.{Arch}
pub use Rattle.cap_model.specs.declared.level.Arch.TheVariants.{Aarch64, Arm11}
pub use Rattle.cap_model.specs.declared.level.Level.{Level}
pub use Rattle.cap_model.specs.declared.level.Level.TheVariants.{Directory, Global, Table, Upper}
pub use Rattle.cap_model.specs.declared.object.Fill.{Fill}
pub use Rattle.cap_model.specs.declared.object.Object.{Object}
pub use Rattle.cap_model.specs.declared.object.Object.TheVariants.{CNode, Endpoint, Frame, Pages, Thread}
pub use Rattle.cap_model.specs.declared.object.Tcb.{Tcb}
pub use Rattle.cap_model.specs.declared.rights.Rights.{Rights}
pub use Rattle.cap_model.specs.declared.spec.Entry.{Entry}
pub use Rattle.cap_model.specs.declared.spec.Spec.{Spec}
pub use Rattle.capdl_write.specs.Writable.{IsWritable, are_slots, caps_of, is_fill, is_laid, is_number, is_plain, is_tcb, is_word, some}
pub use Rattle.conn_rules.specs.Ends.{allows, end_rule}
pub use Rattle.conn_rules.specs.Row.{NONE, RW, rows_of, same_role}
pub use Rattle.conn_rules.specs.declared.rule.ObjectKind.{ObjectKind}
pub use Rattle.conn_rules.specs.declared.rule.ObjectKind.TheVariants.{OfDevice, OfEndpoint, OfFrames, OfIrq, OfNotification}
pub use Rattle.cspace_layout.specs.LeafEnds.{end_here, ends_at, ends_in, ends_of, joins, leaf_ends, member_ends}
pub use Rattle.cspace_layout.specs.Lookups.{end_in, end_of, setting_of}
pub use Rattle.cspace_layout.specs.Members.{is_lock, leaf_members, members_at, members_of_leaf}
pub use Rattle.cspace_layout.specs.SlotFaults.{counts, first_slot_fault, greatest, limits_passed, slot_faults}
pub use Rattle.cspace_layout.specs.Uses.{domain_uses, end_uses, joined_uses, leaf_uses, lock_uses, member_uses, plan_of, slots_of}
pub use Rattle.cspace_layout.specs.declared.end_at.EndAt.{EndAt}
pub use Rattle.cspace_layout.specs.declared.plan.SlotPlan.{SlotPlan}
pub use Rattle.cspace_layout.specs.declared.plan.SlotUse.{SlotUse}
pub use Rattle.cspace_layout.specs.declared.plan.SlotUse.TheVariants.{Handler, OfEnd, OwnLock}
pub use Rattle.cspace_layout.specs.declared.plan.Slots.{Slots}
pub use Rattle.flat_laws.proofs.AreTyped.{ends_typed}
pub use Rattle.flat_laws.proofs.Counts.{alone, counted}
pub use Rattle.flat_laws.proofs.FlatEnds.{place_in, strung_of}
pub use Rattle.flat_laws.proofs.FlatLeaves.{leaf_component, leaf_listed, leaf_owned}
pub use Rattle.flat_laws.proofs.Small.{flat_small}
pub use Rattle.flat_laws.proofs.SomeEnds.{allowed, some_end}
pub use Rattle.flat_laws.proofs.SoundSettings.{AreSettingsSound, settings_sound}
pub use Rattle.flat_laws.proofs.TypedEnds.{hardware_fits, so}
pub use Rattle.flat_laws.specs.ShortFiles.{AreFilesShort}
pub use Rattle.flat_laws.specs.Typed.{AreTyped}
pub use Rattle.page_tables.proofs.Children.{linked_none, slots_lead}
pub use Rattle.page_tables.proofs.Counted.{few_tables, levels_of_addresses}
pub use Rattle.page_tables.proofs.Fitting.{shapes_are_sized, shapes_fit, shapes_stack, span_some}
pub use Rattle.page_tables.proofs.Leveled.{as_many, in_tables}
pub use Rattle.page_tables.proofs.Rising.{kept_rise, shape_of_layer, slots_below}
pub use Rattle.page_tables.proofs.Rooting.{one_root, root_first, upper_below}
pub use Rattle.page_tables.proofs.Running.{from_runs, in_runs, one_table, tables_exact, tables_rise}
pub use Rattle.page_tables.proofs.Walking.{above, arrives, found_before}
pub use Rattle.page_tables.specs.Counts.{levels_of, table_count}
pub use Rattle.page_tables.specs.Fits.{AreShapes}
pub use Rattle.page_tables.specs.Levels.{level_of, IsChild, layer, layers, sizes, slot_of, table_of, tables_of, upper, uppers}
pub use Rattle.page_tables.specs.Runs.{Ascends, Rises, head_of, heads, put_front, runs, under}
pub use Rattle.page_tables.specs.Shapes.{AreStacked, shape, shapes, span}
pub use Rattle.page_tables.specs.Walks.{Arrives, Walk, root_span}
pub use Rattle.page_tables.specs.Levels.{Layer}
pub use Rattle.page_tables.specs.declared.mapping.Mapping.{Mapping}
pub use Rattle.page_tables.specs.declared.shape.Shape.{Shape}
pub use Rattle.reach_laws.proofs.EndLabels.{IsDomains, device_end, domain_no_connection, domain_no_device, label_of_leaf, one_connection, one_domain, own_label}
pub use Rattle.reach_laws.specs.Arranged.{Holds, RootOf}
pub use Rattle.reach_laws.specs.Flat.{HasDevice, IsFlat, is_at_device}
pub use Rattle.reach_laws.specs.Pieces.{HasPieces, IsAccess, OfJoints, OfThreads}
pub use Rattle.reach_laws.specs.Plain.{HoldsPlain, option_plain, plain_kind}
pub use Rattle.reach_laws.specs.Windows.{HasPage, HasWindows, InTable, IsWindow, window_rights}
pub use Rattle.sect_table.specs.declared.image.Image.{Image}
pub use Rattle.sect_table.specs.declared.image.Section.{Section}
pub use Rattle.source_images.specs.ByAddress.{by_address, page_at, pages_of, put_section, section_pages}
pub use Rattle.source_images.specs.Images.{Placed, arch_of, image_number, is_run, placed, sections_if, sections_of}
pub use Rattle.source_images.specs.ImagesRead.{AreImagesOf}
pub use Rattle.source_images.specs.Numbered.{AreNumbered, AreSound}
pub use Rattle.source_images.specs.SectionPages.{fill_from, fill_of, page_count}
pub use Rattle.source_images.specs.SpaceFaults.{first_space_fault}
pub use Rattle.source_images.specs.Types.{Name, component_of, type_number, type_of, types}
pub use Rattle.source_images.specs.declared.images.Images.{Images}
pub use Rattle.source_images.specs.declared.pages.SectionPage.{SectionPage}
pub use Rattle.spec_laws.specs.CanMap.{AreSettled, CanMap}
pub use Rattle.spec_laws.specs.Connected.{IsConnected}
pub use Rattle.spec_laws.specs.Fit.{IsFit}
pub use Rattle.spec_laws.specs.Framed.{AreAllMapped, AreMemoryFrames, AreOwnFrames, IsOwn, OneDevice, OneMemory, ShowsMemory}
pub use Rattle.spec_laws.specs.HaveImages.{HaveImages}
pub use Rattle.spec_laws.specs.Imaged.{AreImages, AreRoots, AreTables}
pub use Rattle.spec_laws.specs.Labelled.{AreDomainLabels, AreFrameLabels, AreTableLabels, IsOf}
pub use Rattle.spec_laws.specs.Limited.{HasMemory, IsLimited, IsSeen}
pub use Rattle.spec_laws.specs.Ordered.{AreFramesInOrder, AreTablesInOrder, IsBefore, IsOwnAt, IsRegisterAt, IsSharedAt, IsTableOfSpace}
pub use Rattle.spec_laws.specs.Plain.{HasProgram, IsImagePlain, IsPlain}
pub use Rattle.spec_laws.specs.Policy.{given_tables, policy_tables}
pub use Rattle.spec_laws.specs.Sized.{IsSized, cap_count, cap_sum, object_sum, thread_count, use_count}
pub use Rattle.spec_laws.specs.Slotted.{CanSlot, HasSlots, IsBadge, IsCNodeOf, IsCapOf, IsEndCap, IsHandlerCap, IsIrqLine, IsIrqOf, IsJoint, IsLineOf, IsLockCap, IsLockNumber, IsNamed, IsSlotLine, IsUsed, OwnLocks, interrupt, leaf_locks}
pub use Rattle.spec_laws.specs.Spaced.{ArePagesOf, AreTablesOf, IsAt, IsRegionPage, IsRootOf, IsSectionPage, IsTableFor, MapsPage, begins, memory_rights, objects_from, root_of, system}
pub use Rattle.spec_laws.specs.Standing.{HasNumber, StandInOrder, rank}
pub use Rattle.spec_laws.specs.Threaded.{AreThreads, AreThreadsNumbered, HasThread, IsThreadOf, Serves}
pub use Rattle.spec_laws.specs.Written.{IsFillWritten, IsFrameWritten, IsThreadWritten, IsWritten}
pub use Rattle.std.proofs.Common.{Bool, List, None, Option, Some, ℕ, [], ap, append_assoc, arith, codes, cond, decimal, drop, false, get_or, inl, inr, length, map, not, option_map, refl, rules, subst, suc, sym, take, true, true≢false, unwrap_or, zero}
pub use Rattle.std.proofs.Common.{⊎_elim, ◌%◌, ◌&&◌, ◌*◌, ◌++◌, ◌+◌, ◌-◌, ◌/◌, ◌<◌, ◌^◌, ◌||◌, ◌↔◌, ◌∙◌, ◌∷◌, ◌≡◌, ◌≢◌, ◌≤◌, ◌⊎◌}
pub use Rattle.std.proofs.Math.Nat.{div-add-mod, div-div-eq-div-mul, div-mul-le_self, le-max_left, le-max_right, mul-add, mul-div_cancel, mul-le-mul_right, mul-one, mul-suc, mul_assoc}
pub use Rattle.std.proofs.lemmas.Bool.{and_from, and_parts, cases_lt, cases_order, cond_both, eq-eqb, eqb-true, false_from_ne_true, le-leb, le-ltb, leb-false, leb-true, lt-ltb, ltb-true, not_from_false, or_cases, or_from, or_right}
pub use Rattle.std.proofs.lemmas.Bool.Decides.{leb_tells}
pub use Rattle.std.proofs.lemmas.Fmt.{decimal_injective, length-decimal-le}
pub use Rattle.std.proofs.lemmas.List.{append_cancel_left, length-append, length-map, length-take-le, map-append}
pub use Rattle.std.proofs.lemmas.List.Folds.{list_all-map}
pub use Rattle.std.proofs.lemmas.List.Quantifiers.{position-Some}
pub use Rattle.std.proofs.lemmas.List.Sums.{count_by-le-length, sum_by-append, sum_by-cons}
pub use Rattle.std.proofs.lemmas.Option.{get_or_from_slice_get, same_Some, slice_get-get_or, slice_get-map, slice_get_within}
pub use Rattle.std.proofs.lemmas.Slice.Eq.{bytes_eq-Decides}
pub use Rattle.std.specs.List.{Contains, count_by, enumerate_from, filter, filter_map, find, flat_map, list_all, list_any, position, position_or_len, range_with_len, slice_get, slice_index, zip}
pub use Rattle.std.specs.Option.{option_and_then, option_map_or}
pub use Rattle.std.specs.Prelude.{IsTrue, is_none, is_some, leb, min, nat_eq, nat_le, nat_lt, slice_index_or, sum, ◌==◌}
pub use Rattle.std.specs.Str.{bytes_eq}
pub use Rattle.std.specs.Str.Parse.{digits_value}
pub use Rattle.system_spec.proofs.Domains.{addresses_same, tables_counted}
pub use Rattle.system_spec.proofs.LeastBits.{least}
pub use Rattle.system_spec.proofs.Objects.{in_together, objects_stand, parts_are_there}
pub use Rattle.system_spec.proofs.Standing.{place_is, stands}
pub use Rattle.system_spec.proofs.There.{IsThere, by_section, has_part, kind_there, object_there, single, there}
pub use Rattle.system_spec.specs.Bits.{bits_for, bits_from}
pub use Rattle.system_spec.specs.Buildable.{IsBuildable, AreNamed, NamesOneOf}
pub use Rattle.system_spec.specs.Made.{entry, labels_of, part_label, part_name, spec_of}
pub use Rattle.system_spec.specs.MapLines.{domain_lines, domain_slots, domain_threads, domain_windows, map_lines, slot_line, slot_lines, thread_line, thread_lines, window_line, window_lines}
pub use Rattle.system_spec.specs.Names.{level_series, name_of, prefix, root_series}
pub use Rattle.system_spec.specs.Objects.{badge_at, buffer_cap, by_number, cap, end_rights, first_rights, frame_at, frame_object, joint, joint_by, line_by, lines, object, put_line, rights_at, role_badge, settled_badge, slots_at, tcb, use_cap}
pub use Rattle.system_spec.specs.Parts.{all_tables, cnodes, domain_locks, domain_tables, domain_tcbs, endpoint, endpoint_by, endpoints, first_of, frame_parts, irq, irq_by, irqs, is_of, level_number, lock, locks, notification}
pub use Rattle.system_spec.specs.Parts.{notification_by, notifications, numbered, of_level, owned, page_mapping, page_rights, page_table, page_tables, part, parts, place, sections, table_part, table_parts, tables_at, tcbs}
pub use Rattle.system_spec.specs.Tables.{Tables, arch, component_name, device_place, entry_in, frame_owner, irq_number, irq_owner, leaf_entry, leaf_name, name_of_item, pages_at, priority, threads_at, uses_at, windows_at}
pub use Rattle.system_spec.specs.TablesFrom.{tables_from}
pub use Rattle.system_spec.specs.declared.map_line.MapLine.{MapLine}
pub use Rattle.system_spec.specs.declared.map_line.MapLine.TheVariants.{DomainLine, ThreadLine, WindowLine}
pub use Rattle.system_spec.specs.declared.part.Owned.{Owned}
pub use Rattle.system_spec.specs.declared.part.PageTable.{PageTable}
pub use Rattle.system_spec.specs.declared.part.Part.{Part}
pub use Rattle.system_spec.specs.declared.part.What.{What}
pub use Rattle.system_spec.specs.declared.part.What.TheVariants.{CNodeOf, EndpointOf, FrameOf, IrqOf, LockOf, NotificationOf, TableOf, ThreadOf}
pub use Rattle.system_spec.specs.declared.series.Series.{Series}
pub use Rattle.vspace_layout.proofs.Counting.{length-region_part}
pub use Rattle.vspace_layout.proofs.Few.{few_at, own_few, registers_few, shared_few}
pub use Rattle.vspace_layout.proofs.Fitting.{few_regions, pages_append, pages_upto}
pub use Rattle.vspace_layout.proofs.Laying.{length_regions, length_threads, start_same}
pub use Rattle.vspace_layout.proofs.MemoryNumbers.{position_found}
pub use Rattle.vspace_layout.proofs.Rising.{each_all, each_append, each_in, rising}
pub use Rattle.vspace_layout.proofs.Sections.{sections_stand}
pub use Rattle.vspace_layout.proofs.Spans.{root_spans}
pub use Rattle.vspace_layout.proofs.Standing.{frames_stand, own_port, registers_mmio}
pub use Rattle.vspace_layout.specs.CanLay.{CanLay, MemoryFits}
pub use Rattle.vspace_layout.specs.Frames.{connection_frames, device_frame, device_frames, frame, frames, frames_at, is_first, memory_before, memory_number, memory_part, number_shown, own_frame, own_frames, own_number, own_part, register_frame}
pub use Rattle.vspace_layout.specs.Frames.{register_frames, register_part, registers_before, shared_frames, shared_part}
pub use Rattle.vspace_layout.specs.Given.{Given, base, ends, given, leaves_of}
pub use Rattle.vspace_layout.specs.Laid.{page, space, spaces_of, thread_place, window_at}
pub use Rattle.vspace_layout.specs.MappedPages.{mapped_pages, may_read, may_write, page_of, pages_from, pages_of_region, region_page, region_part, section_page, section_part}
pub use Rattle.vspace_layout.specs.Memory.{first_to, first_to_end, is_shared, is_to, leads_to, memory_paddr, memory_pages, memory_place, registers, registers_in, same_port, to_place}
pub use Rattle.vspace_layout.specs.PageLimits.{first_page_limit, page_counts, page_faults, table_counts, tables_needed}
pub use Rattle.vspace_layout.specs.Regions.{buffer_start, end_window, is_window, leaf_windows, pages_in, region, region_start, regions, regions_in, sees_memory, stack_pages, thread_regions, threads_of, window_pages, window_region, windows_of}
pub use Rattle.vspace_layout.specs.SpaceLaws.{PagesRise, SectionsStand}
pub use Rattle.vspace_layout.specs.Threads.{is_called, leaf_threads, server, serves, thread}
pub use Rattle.vspace_layout.specs.declared.mapped.MappedPage.{MappedPage}
pub use Rattle.vspace_layout.specs.declared.mapped.Shown.{Shown}
pub use Rattle.vspace_layout.specs.declared.mapped.Shown.TheVariants.{Memory, Own}
pub use Rattle.vspace_layout.specs.declared.region.Content.{Content}
pub use Rattle.vspace_layout.specs.declared.region.Content.TheVariants.{Buffer, Stack, Window}
pub use Rattle.vspace_layout.specs.declared.region.Region.{Region}
pub use Rattle.vspace_layout.specs.declared.spaces.FrameInfo.{FrameInfo}
pub use Rattle.vspace_layout.specs.declared.spaces.Page.{Page}
pub use Rattle.vspace_layout.specs.declared.spaces.Space.{Space}
pub use Rattle.vspace_layout.specs.declared.spaces.Spaces.{Spaces}
pub use Rattle.vspace_layout.specs.declared.spaces.ThreadPlace.{ThreadPlace}

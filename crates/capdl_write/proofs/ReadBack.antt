-- Reading the tokens of a canonical text gives its tree.
use Rattle.capdl_write.proofs.Common.{Aarch64, Arm11, CNode, Cap, Directory, Eats, Endpoint, Entry, Fill, Frame, Global, Irq, Level, List, None, Notification, Number, Object, Ok, Option, Pages, Piece, Rule, Seen, Some, Span, Table, Tcb}
use Rattle.capdl_write.proofs.Common.{Thread, ThreadField, Upper, [], among, and_parts, arith, behind, brace_l, brace_r, codes, colon, comma, dec, eats, elf_pieces, false, fill_pieces, hex, inner, is_name, left_out_is, left_out_line, length}
use Rattle.capdl_write.proofs.Common.{length-append, level_word, list_all, many, many_more, many_none, mark_code, name_codes, next_frame_field, next_frame_field_eats, object_eats, object_form, object_pieces, objects_pieces, opens, paddr_pieces}
use Rattle.capdl_write.proofs.Common.{paren_r, quoted, reads, refl, square_l, square_r, starts, take_at, thread_field_form, token_code, true, word, word_code, ℕ, ◌++◌, ◌+◌, ◌-◌, ◌∙◌, ◌∷◌, ◌≡◌}
use Rattle.capdl_text.specs.declared.field.Field.TheVariants as fields
use Rattle.capdl_text.specs.declared.token.Mark.TheVariants as marks
use Rattle.capdl_text.specs.declared.token.Word.{Word}
use Rattle.capdl_text.specs.declared.token.Word.TheVariants as words
use Rattle.capdl_text.specs.Words.{word_of, field_of}
use Rattle.capdl_text.specs.Forms.{number_field_line, elf_field_line, thread_field_line, thread_fields_line, maybe_thread_fields, thread_line, paddr_line, fill_line, fill_field_line, frame_field_line, next_frame_field_line, frame_line, cnode_line}
use Rattle.capdl_text.specs.Forms.{kind_line, object_line}
use Rattle.capdl_text.specs.declared.tree.FrameField.{FrameField}
use Rattle.capdl_text.specs.declared.tree.FrameValue.TheVariants as frame
use Rattle.capdl_text.specs.declared.tree.KindLine.{KindLine}
use Rattle.capdl_text.specs.declared.tree.KindLine.TheVariants as kind
use Rattle.capdl_text.specs.declared.tree.ObjectLine.{ObjectLine}
use Rattle.capdl_text.specs.declared.tree.ThreadValue.{ThreadValue}
use Rattle.capdl_text.specs.declared.tree.ThreadValue.TheVariants as thread
use Rattle.capdl_write.proofs.Shown.{shown}
use Rattle.cam_base.specs.Deciding.{decides}

-- every word may name an object
pub any : (w : Word) → among name_codes (word_code w) ≡ true
any (words.Pages Global) = refl
any (words.Field fields.Addr) = refl
any _ = refl

-- ---- the words of the grammar

pub word-ep : word_of (codes "ep") ≡ words.Endpoint
unfolding word_of field_of
word-ep = refl

pub word-notification : word_of (codes "notification") ≡ words.Notification
unfolding word_of field_of
word-notification = refl

pub word-cnode : word_of (codes "cnode") ≡ words.CNode
unfolding word_of field_of
word-cnode = refl

pub word-bits : word_of (codes "bits") ≡ words.Bits
unfolding word_of field_of
word-bits = refl

pub word-irq : word_of (codes "irq") ≡ words.Irq
unfolding word_of field_of
word-irq = refl

pub word-tcb : word_of (codes "tcb") ≡ words.Thread
unfolding word_of field_of
word-tcb = refl

pub word-addr : word_of (codes "addr") ≡ words.Field fields.Addr
unfolding word_of field_of
word-addr = refl

pub word-ip : word_of (codes "ip") ≡ words.Field fields.Ip
unfolding word_of field_of
word-ip = refl

pub word-sp : word_of (codes "sp") ≡ words.Field fields.Sp
unfolding word_of field_of
word-sp = refl

pub word-prio : word_of (codes "prio") ≡ words.Field fields.Prio
unfolding word_of field_of
word-prio = refl

pub word-elf : word_of (codes "elf") ≡ words.Field fields.Elf
unfolding word_of field_of
word-elf = refl

pub word-frame : word_of (codes "frame") ≡ words.Frame
unfolding word_of field_of
word-frame = refl

pub word-paddr : word_of (codes "paddr") ≡ words.Field fields.Paddr
unfolding word_of field_of
word-paddr = refl

pub word-fill : word_of (codes "fill") ≡ words.Field fields.Fill
unfolding word_of field_of
word-fill = refl

pub word-data : word_of (codes "CDL_FrameFill_FileData") ≡ words.FileData
unfolding word_of field_of
word-data = refl

pub word-pgd : word_of (codes "pgd") ≡ words.Pages Global
unfolding word_of field_of
word-pgd = refl

pub word-pud : word_of (codes "pud") ≡ words.Pages Upper
unfolding word_of field_of
word-pud = refl

pub word-pd : word_of (codes "pd") ≡ words.Pages Directory
unfolding word_of field_of
word-pd = refl

pub word-pt : word_of (codes "pt") ≡ words.Pages Table
unfolding word_of field_of
word-pt = refl

pub word-badge : word_of (codes "badge") ≡ words.Badge
unfolding word_of field_of
word-badge = refl

pub word-cspace : word_of (codes "cspace") ≡ words.Cspace
unfolding word_of field_of
word-cspace = refl

pub word-vspace : word_of (codes "vspace") ≡ words.Vspace
unfolding word_of field_of
word-vspace = refl

pub word-buffer : word_of (codes "ipc_buffer_slot") ≡ words.Buffer
unfolding word_of field_of
word-buffer = refl

pub word-arch : word_of (codes "arch") ≡ words.Arch
unfolding word_of field_of
word-arch = refl

pub word-arm11 : word_of (codes "arm11") ≡ words.Arm11
unfolding word_of field_of
word-arm11 = refl

pub word-aarch64 : word_of (codes "aarch64") ≡ words.Aarch64
unfolding word_of field_of
word-aarch64 = refl

pub word-objects : word_of (codes "objects") ≡ words.Objects
unfolding word_of field_of
word-objects = refl

pub word-caps : word_of (codes "caps") ≡ words.Caps
unfolding word_of field_of
word-caps = refl

pub word-maps : word_of (codes "maps") ≡ words.Maps
unfolding word_of field_of
word-maps = refl

-- one more of a list
pub one_more : {A : Type 0} (cs : List ℕ) (f : Rule A) → Eats (reads f) → (ts : List Seen) (x : A) (us : List Seen) (xs : List A)
    (rest : List Seen)
    → starts token_code cs ts ≡ true → reads f ts ≡ Ok (x, us) → many token_code cs (reads f) us ≡ Ok (xs, rest)
    → many token_code cs (reads f) ts ≡ Ok (x ∷ xs, rest)
one_more cs f eat ts x us xs rest h e m = many_more token_code cs (reads f) eat ts h ∙ rw (e, m) refl

pub inner_is : (text : List ℕ) → inner (34 ∷ text ++ 34 ∷ []) ≡ text
inner_is text = take_at text (34 ∷ []) (length (text ++ 34 ∷ []) - 1) (omega (arith, length-append text (34 ∷ [])))

module _ (pl : List Piece → Span) where
  -- a number at the front
  abbrev pub at_number : ℕ → List Piece → Number
  at_number n ps = record { value = n; place = pl ps }

  -- a field, whose word is at the front
  abbrev pub field_at : List ℕ → (Number → ThreadValue) → ℕ → Piece → List Piece → ThreadField
  field_at key value n p tail = record { place = pl (word key [] ∷ colon ∷ p ∷ tail); value = value (at_number n (p ∷ tail)) }

  abbrev pub elf_at : List ℕ → List Piece → ThreadField
  elf_at elf tail = record { place = pl (word (codes "elf") [] ∷ colon ∷ quoted elf [] ∷ tail); value = thread.Elf elf }

  read_addr : (n : ℕ) (tail : List Piece) → reads thread_field_form (shown pl (word (codes "addr") [] ∷ colon ∷ hex n [] ∷ tail))
      ≡ Ok (field_at (codes "addr") thread.Addr n (hex n []) tail, shown pl tail)
  unfolding thread_field_line number_field_line
  read_addr n tail = rw word-addr refl

  read_ip : (n : ℕ) (tail : List Piece) → reads thread_field_form (shown pl (word (codes "ip") [] ∷ colon ∷ hex n [] ∷ tail)) ≡ Ok
      (field_at (codes "ip") thread.Ip n (hex n []) tail, shown pl tail)
  unfolding thread_field_line number_field_line
  read_ip n tail = rw word-ip refl

  read_sp : (n : ℕ) (tail : List Piece) → reads thread_field_form (shown pl (word (codes "sp") [] ∷ colon ∷ hex n [] ∷ tail)) ≡ Ok
      (field_at (codes "sp") thread.Sp n (hex n []) tail, shown pl tail)
  unfolding thread_field_line number_field_line
  read_sp n tail = rw word-sp refl

  read_prio : (n : ℕ) (tail : List Piece) → reads thread_field_form (shown pl (word (codes "prio") [] ∷ colon ∷ dec n [] ∷ tail))
      ≡ Ok (field_at (codes "prio") thread.Prio n (dec n []) tail, shown pl tail)
  unfolding thread_field_line number_field_line
  read_prio n tail = rw word-prio refl

  read_elf : (elf : List ℕ) (tail : List Piece)
      → reads thread_field_form (shown pl (word (codes "elf") [] ∷ colon ∷ quoted elf [] ∷ tail)) ≡ Ok
      (elf_at elf tail, shown pl tail)
  unfolding thread_field_line elf_field_line
  read_elf elf tail = rw (word-elf, inner_is elf) refl

  read_ep : (name : List ℕ) (more : List Piece) → is_name name ≡ true
      → reads object_form (shown pl (object_pieces name Endpoint more)) ≡ Ok (
        record { id = record { name = name; place = pl (object_pieces name Endpoint more) }; kind = kind.Endpoint },
        shown pl more,
      )
  unfolding object_line kind_line
  read_ep name more n = rw (any (word_of name), n, word-ep) refl

  read_cnode : (name : List ℕ) (bits : ℕ) (slots : List (ℕ × Cap)) (more : List Piece) → is_name name ≡ true
      → reads object_form (shown pl (object_pieces name (CNode bits slots) more)) ≡ Ok (
        record {
          id = record { name = name; place = pl (object_pieces name (CNode bits slots) more) };
          kind = kind.CNode (at_number bits (dec bits (codes " ") ∷ word (codes "bits") [] ∷ paren_r (codes "\n") ∷ more));
        },
        shown pl more,
      )
  unfolding object_line kind_line cnode_line
  read_cnode name bits slots more n = rw (any (word_of name), n, word-cnode, word-bits) refl

  read_notification : (name : List ℕ) (more : List Piece) → is_name name ≡ true
      → reads object_form (shown pl (object_pieces name Notification more)) ≡ Ok (
        record { id = record { name = name; place = pl (object_pieces name Notification more) }; kind = kind.Notification },
        shown pl more,
      )
  unfolding object_line kind_line
  read_notification name more n = rw (any (word_of name), n, word-notification) refl

  read_irq : (name : List ℕ) (o : Option ℕ) (more : List Piece) → is_name name ≡ true
      → reads object_form (shown pl (object_pieces name (Irq o) more)) ≡ Ok
      (record { id = record { name = name; place = pl (object_pieces name (Irq o) more) }; kind = kind.Irq }, shown pl more)
  unfolding object_line kind_line
  read_irq name o more n = rw (any (word_of name), n, word-irq) refl

  read_pages : (name : List ℕ) (level : Level) (slots : List (ℕ × Cap)) (more : List Piece) → is_name name ≡ true
      → reads object_form (shown pl (object_pieces name (Pages level slots) more)) ≡ Ok (
        record {
          id = record { name = name; place = pl (object_pieces name (Pages level slots) more) };
          kind = kind.Pages level (pl (word (level_word level) (codes "\n") ∷ more));
        },
        shown pl more,
      )
  unfolding object_line kind_line
  read_pages name Global slots more n = rw (any (word_of name), n, word-pgd) refl
  read_pages name Upper slots more n = rw (any (word_of name), n, word-pud) refl
  read_pages name Directory slots more n = rw (any (word_of name), n, word-pd) refl
  read_pages name Table slots more n = rw (any (word_of name), n, word-pt) refl

  -- ---- threads

  abbrev pub prio_tail : ℕ → List Piece → List Piece
  prio_tail prio more = comma ∷ word (codes "prio") [] ∷ colon ∷ dec prio [] ∷ paren_r (codes "\n") ∷ more

  abbrev pub sp_tail : Tcb → List Piece → List Piece
  sp_tail tcb more = elf_pieces tcb.elf (prio_tail tcb.prio more)

  abbrev pub ip_tail : Tcb → List Piece → List Piece
  ip_tail tcb more = comma ∷ word (codes "sp") [] ∷ colon ∷ hex tcb.sp [] ∷ sp_tail tcb more

  abbrev pub addr_tail : Tcb → List Piece → List Piece
  addr_tail tcb more = comma ∷ word (codes "ip") [] ∷ colon ∷ hex tcb.ip [] ∷ ip_tail tcb more

  abbrev pub with_elf : Option (List ℕ) → List Piece → List ThreadField → List ThreadField
  with_elf None tail fs = fs
  with_elf (Some elf) tail fs = elf_at elf tail ∷ fs

  abbrev pub last_fields : ℕ → List Piece → List ThreadField
  last_fields prio more = field_at (codes "prio") thread.Prio prio (dec prio []) (paren_r (codes "\n") ∷ more) ∷ []

  abbrev pub more_fields : Tcb → List Piece → List ThreadField
  more_fields tcb more =
      field_at (codes "ip") thread.Ip tcb.ip (hex tcb.ip []) (ip_tail tcb more) ∷ field_at (codes "sp") thread.Sp tcb.sp
      (hex tcb.sp []) (sp_tail tcb more) ∷ with_elf tcb.elf (prio_tail tcb.prio more) (last_fields tcb.prio more)

  abbrev pub fields_at : Tcb → List Piece → List ThreadField
  fields_at tcb more = field_at (codes "addr") thread.Addr tcb.addr (hex tcb.addr []) (addr_tail tcb more) ∷ more_fields tcb more

  abbrev comma_code : List ℕ
  comma_code = mark_code marks.Comma ∷ []

  abbrev next_field : Rule ThreadField
  next_field = behind (mark_code marks.Comma) thread_field_form

  next_decides : decides opens next_field ≡ true
  unfolding thread_field_line number_field_line elf_field_line
  next_decides = refl

  next_eats : Eats (reads next_field)
  next_eats = eats token_code left_out_line opens left_out_is 0 next_field next_decides refl

  -- one more field behind a comma
  one_field : (ps : List Piece) (x : ThreadField) (us : List Seen) (xs : List ThreadField) (rest : List Seen)
      → reads thread_field_form (shown pl ps) ≡ Ok (x, us) → many token_code comma_code (reads next_field) us ≡ Ok (xs, rest)
      → many token_code comma_code (reads next_field) (shown pl (comma ∷ ps)) ≡ Ok (x ∷ xs, rest)
  one_field ps x us xs rest e m = one_more comma_code next_field next_eats (shown pl (comma ∷ ps)) x us xs rest refl (rw e refl) m

  read_last : (prio : ℕ) (more : List Piece) → many token_code comma_code (reads next_field) (shown pl (prio_tail prio more)) ≡ Ok
      (last_fields prio more, shown pl (paren_r (codes "\n") ∷ more))
  read_last prio more = one_field _ _ _ _ _ (read_prio prio (paren_r (codes "\n") ∷ more))
      (many_none token_code comma_code (reads next_field) (shown pl (paren_r (codes "\n") ∷ more)) refl)

  read_elf_tail : (elf : Option (List ℕ)) (prio : ℕ) (more : List Piece)
      → many token_code comma_code (reads next_field) (shown pl (elf_pieces elf (prio_tail prio more))) ≡ Ok
      (with_elf elf (prio_tail prio more) (last_fields prio more), shown pl (paren_r (codes "\n") ∷ more))
  read_elf_tail None prio more = read_last prio more
  read_elf_tail (Some elf) prio more = one_field _ _ _ _ _ (read_elf elf (prio_tail prio more)) (read_last prio more)

  read_more : (tcb : Tcb) (more : List Piece) → many token_code comma_code (reads next_field) (shown pl (addr_tail tcb more)) ≡ Ok
      (more_fields tcb more, shown pl (paren_r (codes "\n") ∷ more))
  read_more tcb more =
      one_field _ _ _ _ _ (read_ip tcb.ip (ip_tail tcb more)) (one_field _ _ _ _ _ (read_sp tcb.sp (sp_tail tcb more))
      (read_elf_tail tcb.elf tcb.prio more))

  read_thread : (name : List ℕ) (tcb : Tcb) (more : List Piece) → is_name name ≡ true
      → reads object_form (shown pl (object_pieces name (Thread tcb) more)) ≡ Ok (
        record {
          id = record { name = name; place = pl (object_pieces name (Thread tcb) more) };
          kind = kind.Thread (fields_at tcb more);
        },
        shown pl more,
      )
  unfolding object_line kind_line thread_line maybe_thread_fields thread_fields_line
  read_thread name tcb more n = rw (
    any (word_of name),
    n,
    word-tcb,
    read_addr tcb.addr (addr_tail tcb more),
    read_more tcb more,
  ) refl

  -- ---- frames

  abbrev pub data_tail : Fill → List Piece → List Piece
  data_tail fill more = word (codes "CDL_FrameFill_FileData") (codes " ") ∷ quoted fill.file (codes " ") ∷ hex fill.at []
      ∷ brace_r [] ∷ square_r ∷ more

  abbrev pub fill_tail : Fill → List Piece → List Piece
  fill_tail fill more = word (codes "fill") [] ∷ colon ∷ square_l ∷ brace_l [] ∷ dec fill.offset (codes " ")
      ∷ dec fill.length (codes " ") ∷ data_tail fill more

  abbrev pub fill_at : Fill → List Piece → FrameField
  fill_at fill more = record {
    place = pl (fill_tail fill more);
    value = frame.Fill (Some (record {
      offset = at_number fill.offset (dec fill.offset (codes " ") ∷ dec fill.length (codes " ") ∷ data_tail fill more);
      length = at_number fill.length (dec fill.length (codes " ") ∷ data_tail fill more);
      file = fill.file;
      at = at_number fill.at (hex fill.at [] ∷ brace_r [] ∷ square_r ∷ more);
    }));
  }

  abbrev pub paddr_at : ℕ → List Piece → FrameField
  paddr_at paddr more = record {
    place = pl (word (codes "paddr") [] ∷ colon ∷ hex paddr [] ∷ more);
    value = frame.Paddr (at_number paddr (hex paddr [] ∷ more));
  }

  abbrev pub fill_fields : Option Fill → List Piece → List FrameField
  fill_fields None more = []
  fill_fields (Some fill) more = fill_at fill more ∷ []

  abbrev pub frame_fields : Option ℕ → Option Fill → List Piece → List FrameField
  frame_fields None fill more = fill_fields fill more
  frame_fields (Some paddr) fill more = paddr_at paddr (fill_pieces fill more) ∷ fill_fields fill more

  read_paddr : (paddr : ℕ) (more : List Piece)
      → reads next_frame_field (shown pl (comma ∷ word (codes "paddr") [] ∷ colon ∷ hex paddr [] ∷ more)) ≡ Ok
      (paddr_at paddr more, shown pl more)
  unfolding next_frame_field_line frame_field_line paddr_line
  read_paddr paddr more = rw word-paddr refl

  read_fill : (fill : Fill) (more : List Piece) → reads next_frame_field (shown pl (comma ∷ fill_tail fill more)) ≡ Ok
      (fill_at fill more, shown pl more)
  unfolding next_frame_field_line frame_field_line fill_field_line fill_line
  read_fill fill more = rw (word-fill, word-data, inner_is fill.file) refl

  read_fills : (fill : Option Fill) (more : List Piece) → starts token_code comma_code (shown pl more) ≡ false
      → many token_code comma_code (reads next_frame_field) (shown pl (fill_pieces fill more)) ≡ Ok (
        fill_fields fill more,
        shown pl more,
      )
  read_fills None more s = many_none token_code comma_code (reads next_frame_field) (shown pl more) s
  read_fills (Some fill) more s =
      one_more comma_code next_frame_field next_frame_field_eats _ _ _ _ _ refl (read_fill fill more)
      (many_none token_code comma_code (reads next_frame_field) (shown pl more) s)

  read_frames : (paddr : Option ℕ) (fill : Option Fill) (more : List Piece) → starts token_code comma_code (shown pl more) ≡ false
      → many token_code comma_code (reads next_frame_field) (shown pl (paddr_pieces paddr (fill_pieces fill more))) ≡ Ok
      (frame_fields paddr fill more, shown pl more)
  read_frames None fill more s = read_fills fill more s
  read_frames (Some paddr) fill more s =
      one_more comma_code next_frame_field next_frame_field_eats _ _ _ _ _ refl (read_paddr paddr (fill_pieces fill more))
      (read_fills fill more s)

  read_frame : (name : List ℕ) (paddr : Option ℕ) (fill : Option Fill) (more : List Piece) → is_name name ≡ true
      → reads object_form (shown pl (object_pieces name (Frame paddr fill) more)) ≡ Ok (
        record {
          id = record { name = name; place = pl (object_pieces name (Frame paddr fill) more) };
          kind = kind.Frame (frame_fields paddr fill (paren_r (codes "\n") ∷ more));
        },
        shown pl more,
      )
  unfolding object_line kind_line frame_line
  read_frame name paddr fill more n =
      rw (any (word_of name), n, word-frame, read_frames paddr fill (paren_r (codes "\n") ∷ more) refl) refl

  -- ---- objects

  abbrev pub kind_at : Object → List Piece → KindLine
  kind_at Endpoint more = kind.Endpoint
  kind_at Notification more = kind.Notification
  kind_at (CNode bits slots) more =
      kind.CNode (at_number bits (dec bits (codes " ") ∷ word (codes "bits") [] ∷ paren_r (codes "\n") ∷ more))
  kind_at (Thread tcb) more = kind.Thread (fields_at tcb more)
  kind_at (Frame paddr fill) more = kind.Frame (frame_fields paddr fill (paren_r (codes "\n") ∷ more))
  kind_at (Pages level slots) more = kind.Pages level (pl (word (level_word level) (codes "\n") ∷ more))
  kind_at (Irq notification) more = kind.Irq

  abbrev pub object_at : List ℕ → Object → List Piece → ObjectLine
  object_at name o more = record { id = record { name = name; place = pl (object_pieces name o more) }; kind = kind_at o more }

  read_object : (name : List ℕ) (o : Object) (more : List Piece) → is_name name ≡ true
      → reads object_form (shown pl (object_pieces name o more)) ≡ Ok (object_at name o more, shown pl more)
  read_object name Endpoint more n = read_ep name more n
  read_object name Notification more n = read_notification name more n
  read_object name (CNode bits slots) more n = read_cnode name bits slots more n
  read_object name (Thread tcb) more n = read_thread name tcb more n
  read_object name (Frame paddr fill) more n = read_frame name paddr fill more n
  read_object name (Pages level slots) more n = read_pages name level slots more n
  read_object name (Irq notification) more n = read_irq name notification more n

  object_starts : (name : List ℕ) (o : Object) (more : List Piece)
      → starts token_code name_codes (shown pl (object_pieces name o more)) ≡ true
  object_starts name (Pages level slots) more = any (word_of name)
  object_starts name _ more = any (word_of name)

  abbrev pub objects_at : List Entry → List Piece → List ObjectLine
  objects_at [] more = []
  objects_at (e ∷ es) more = object_at e.name e.object (objects_pieces es more) ∷ objects_at es more

  pub read_objects : (es : List Entry) (more : List Piece) → list_all (λ e. is_name e.name) es ≡ true
      → starts token_code name_codes (shown pl more) ≡ false
      → many token_code name_codes (reads object_form) (shown pl (objects_pieces es more)) ≡ Ok (
        objects_at es more,
        shown pl more,
      )
  read_objects [] more h s = many_none token_code name_codes (reads object_form) (shown pl more) s
  read_objects (e ∷ es) more h s =
      let k = and_parts (is_name e.name) (list_all (λ e. is_name e.name) es) h in
      one_more name_codes object_form object_eats _ _ _ _ _ (object_starts e.name e.object (objects_pieces es more))
      (read_object e.name e.object (objects_pieces es more) k.0) (read_objects es more k.1 s)

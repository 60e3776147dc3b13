-- The connector table's other half: the interfaces that an end of a connection joins, and how many such ends there are.
--
--   Connector     from                to                  Ends
--   Rpc           software uses       software provides   1 or more, 1
--   Notification  software emits      software consumes   1 or more, 1
--   SharedMemory  software dataport   software dataport   1 or more, 1 or more
--   Mmio          software dataport   hardware dataport   1, 1
--   Interrupt     hardware emits      software consumes   1, 1
--   Direct        software uses       software provides   1 or more, 1
use Rattle.std.specs.Prelude.{ℕ, Bool, true, false, ◌&&◌, nat_le, Option, Some, None}
use Rattle.conn_rules.specs.Below.{Connector, Direct, From, Interrupt, Mmio, Notification, Role, Rpc, SharedMemory, To}
use Rattle.adl_ast.specs.declared.component.InterfaceKind.{InterfaceKind}
use Rattle.adl_ast.specs.declared.component.InterfaceKind.TheVariants.{Uses, Provides, Emits, Consumes, Dataport}
use Rattle.conn_rules.specs.declared.end.EndRule.{EndRule}

abbrev pub one_software : InterfaceKind → EndRule
one_software kind = record { interface = kind; hardware = false; least = 1; most = Some 1 }

abbrev pub one_hardware : InterfaceKind → EndRule
one_hardware kind = record { interface = kind; hardware = true; least = 1; most = Some 1 }

abbrev pub some_software : InterfaceKind → EndRule
some_software kind = record { interface = kind; hardware = false; least = 1; most = None }

abbrev pub end_rule : Connector → Role → EndRule
end_rule Rpc From = some_software Uses
end_rule Rpc To = one_software Provides
end_rule Notification From = some_software Emits
end_rule Notification To = one_software Consumes
end_rule SharedMemory From = some_software Dataport
end_rule SharedMemory To = some_software Dataport
end_rule Mmio From = one_software Dataport
end_rule Mmio To = one_hardware Dataport
end_rule Interrupt From = one_hardware Emits
end_rule Interrupt To = one_software Consumes
end_rule Direct From = some_software Uses
end_rule Direct To = one_software Provides

abbrev pub at_most : ℕ → Option ℕ → Bool
at_most count None = true
at_most count (Some most) = nat_le count most

-- whether a connection may have so many such ends
abbrev pub allows : EndRule → ℕ → Bool
allows rule count = nat_le rule.least count && at_most count rule.most

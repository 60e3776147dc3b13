-- A capability lessened to rights: of its own rights it has those that are among them.
use Rattle.std.specs.Prelude.{◌&&◌}
use Rattle.cap_model.specs.declared.cap.Cap.{Cap}
use Rattle.cap_model.specs.declared.rights.Rights.{Rights}

-- the meet of the two: the rights that stand in both
abbrev pub both_rights : Rights → Rights → Rights
both_rights rights r = record {
  read = rights.read && r.read;
  write = rights.write && r.write;
  grant = rights.grant && r.grant;
  reply = rights.reply && r.reply;
}

-- object and badge stay
abbrev pub lessened : Cap → Rights → Cap
lessened cap r = record cap { rights = both_rights cap.rights r }

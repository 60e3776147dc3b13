-- Specs of builds are read back: each part by the law of its own layer.
use Rattle.std.proofs.Common.{rules}
use Rattle.camkes_tool.proofs.Common.{one_spec}
use Rattle.camkes_tool.proofs.BackCommon.{AreFacts, Build, Contents, Images, IsBuildOf, IsSpecReadBack, IsWritable, List, Source, build_facts, can_lay, flat_of, images_beside, made_fit, spec_of, subst, sym, system_tables, ℕ}
use Rattle.adl_settings.specs.Settled.{settled_of}
use Rattle.capdl_write.proofs.Whole.{canonical_text}
use Rattle.spec_laws.proofs.Fits.{layouts_are_limited}
use Rattle.spec_laws.proofs.SourcePlain.{layouts_are_plain}
use Rattle.spec_laws.proofs.ReadImages.{read_images_are_plain}
use Rattle.spec_laws.proofs.Plainly.{tables_written}
use Rattle.spec_laws.proofs.Sizing.{tables_sized}
use Rattle.spec_laws.proofs.Writing.{spec_writable}

pub made_writable : {contents : Contents} (s : Source) (images : Images) → AreFacts contents s images
    → IsWritable (spec_of (system_tables s images))
made_writable {contents} s images facts =
    let f = facts.faultless in
    let t = system_tables s images in
    let limited = layouts_are_limited s images facts.short f.names f.types f.flat f.settings facts.slot facts.page in
    let plain = layouts_are_plain s images facts.short f.names f.flat (read_images_are_plain contents _ s images facts.short
    facts.read) in
    let can = can_lay s images facts.short f.names f.types f.flat f.settings in
    spec_writable t
    (made_fit s images facts)
    (tables_sized s (flat_of s) (settled_of s) images limited)
    (tables_written s (flat_of s) (settled_of s) images plain can limited.pages)

pub spec_back : (root : List ℕ) (contents : Contents) (b : Build) → IsBuildOf root contents b → IsSpecReadBack b
spec_back root contents b is =
    let s = b.meaning.source in
    let images = images_beside contents s in
    let w : IsWritable b.spec =
    subst IsWritable (sym is.made.spec_is) (made_writable s images (build_facts root contents b is)) in
    search (rules, canonical_text, one_spec)

-- What is read of a file, part by part.
use Rattle.sect_table.proofs.Common.{Class, Elf, ElfFault, Err, Image, List, None, Ok, Option, ProgramHeader, Refused, Result, Some, class_in, fault_behind, first_fault, headers, headers_fault, image_of, length, limit_fault}
use Rattle.sect_table.proofs.Common.{option_or, refl, subst, sym, table_fault, ℕ, ◌∙◌, ◌≡◌}
use Rattle.std.specs.Result.{IsErrAnd}
use Rattle.cam_base.specs.declared.error.Refused.TheVariants as refused
use Rattle.cam_base.proofs.Errors.{passed_on}
use Rattle.sect_table.specs.Elf.{IsRead}
use Rattle.sect_table.specs.SectionsRead.{AreSectionsRead, sound_behind, sound_class, unless_at_fault}

pub record Sound (bytes : List ℕ) (r : Result Class ElfFault) (class : Class) : Type 0 where
  pub known : r ≡ Ok class
  pub table : table_fault class bytes ≡ None
  pub headers : headers_fault (length bytes) (headers class bytes) ≡ None

unless_ok : (k : Class) (a b : Option ElfFault) (class : Class) → unless_at_fault k a b ≡ Ok class
    → (k ≡ class) × (a ≡ None) × (b ≡ None)
unless_ok k None None class e = (cc, refl, refl)
unless_ok k None (Some f) class e = absurd cc
unless_ok k (Some f) None class e = absurd cc
unless_ok k (Some f) (Some g) class e = absurd cc

sound_from : (bytes : List ℕ) (r : Result Class ElfFault) (class : Class) → sound_behind bytes r ≡ Ok class → Sound bytes r class
sound_from bytes (Err f) class e = absurd cc
sound_from bytes (Ok k) class e =
    let u : (k ≡ class) × (table_fault k bytes ≡ None) × (headers_fault (length bytes) (headers k bytes) ≡ None) =
    unless_ok k _ _ class e in
    let P : Class → Type 0 = λ z. Sound bytes (Ok k) z in
    subst P u.0 (record { known = refl; table = u.1; headers = u.2 })

-- where the class is told, neither its fields nor its program headers have a fault
pub sound_of : (bytes : List ℕ) (class : Class) → Ok class ≡ sound_class bytes → Sound bytes (class_in bytes) class
sound_of bytes class e = sound_from bytes (class_in bytes) class (sym e)

unless_err : (k : Class) (a b l : Option ElfFault) (f : ElfFault) → unless_at_fault k a b ≡ Err f
    → option_or a (option_or b l) ≡ Some f
unless_err k None None l f e = absurd cc
unless_err k None (Some g) l f e = cc
unless_err k (Some g) None l f e = cc
unless_err k (Some g) (Some h) l f e = cc

fault_from : (bytes : List ℕ) (r : Result Class ElfFault) (f : ElfFault) → sound_behind bytes r ≡ Err f
    → fault_behind bytes r ≡ Some f
fault_from bytes (Err g) f e = cc
fault_from bytes (Ok k) f e = unless_err k _ _ _ f e

-- where it is not, the fault is the first
pub fault_of : (bytes : List ℕ) (f : ElfFault) → Err f ≡ sound_class bytes → first_fault bytes ≡ Some f
fault_of bytes f e = fault_from bytes (class_in bytes) f (sym e)

-- behind these faults only the count of sections is left
limit_left : (bytes : List ℕ) (r : Result Class ElfFault) (class : Class) → Sound bytes r class
    → fault_behind bytes r ≡ limit_fault (headers class bytes)
limit_left bytes r class s = cc

pub first_is_limit : (bytes : List ℕ) (class : Class) → Ok class ≡ sound_class bytes
    → first_fault bytes ≡ limit_fault (headers class bytes)
first_is_limit bytes class e = limit_left bytes (class_in bytes) class (sound_of bytes class e)

pub elf_from : (name bytes : List ℕ) (class : Class) (image : Image) → Ok class ≡ sound_class bytes
    → limit_fault (headers class bytes) ≡ None → image ≡ image_of name bytes class → Elf name bytes image
elf_from name bytes class image e l is = record {
  sound = first_is_limit bytes class e ∙ l;
  class = class;
  known = (sound_of bytes class e).known;
  is = is;
}

limit_or_memory : (name bytes : List ℕ) (class : Class) (r : Refused ElfFault) → Ok class ≡ sound_class bytes
    → AreSectionsRead (headers class bytes) (Err r) → IsRead name bytes (Err r)
limit_or_memory name bytes class (refused.Fault f) e h = first_is_limit bytes class e ∙ h
limit_or_memory name bytes class refused.NoMemory e h = tt

-- want of memory, or too many sections
pub sections_refused : (name bytes : List ℕ) (class : Class) (hs : List ProgramHeader) (answer : Result Image (Refused ElfFault))
    (r : Refused ElfFault) → Ok class ≡ sound_class bytes → hs ≡ headers class bytes
    → AreSectionsRead hs (Err r) → IsErrAnd answer (λ other. other ≡ r) → IsRead name bytes answer
sections_refused name bytes class hs answer r e same h is =
    let P : List ProgramHeader → Type 0 = λ z. AreSectionsRead z (Err r) in
    passed_on (IsRead name bytes) answer r is (limit_or_memory name bytes class r e (subst P same h))

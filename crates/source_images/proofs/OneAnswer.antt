-- In given contents there is one answer.
use Rattle.source_images.proofs.Common.{AreImagesRead, Contents, Err, Fault, Flat, Images, List, None, Ok, Option, Result, Some, Source, SourceError, ap, false, first_table_fault, found_of, sym, true≢false, yields, ℕ, ◌∙◌, ◌≡◌}
use Rattle.cam_base.specs.declared.error.Unread.TheVariants as error

some_other : (o : Option Fault) (f : Fault) {T : Type 0} → o ≡ None → o ≡ Some f → T
some_other o f none some = absurd (let e : None ≡ Some f = sym none ∙ some in cc)

pub one_answer : (m : Contents) (root : List ℕ) (source : Source) (flat : Flat) (a b : Result Images SourceError)
    → yields a ≡ false → yields b ≡ false
    → AreImagesRead m root source flat a → AreImagesRead m root source flat b → a ≡ b
one_answer m root source flat (Ok a) (Ok b) p q x y = ap (λ z. Ok z) (x.images ∙ sym y.images)
one_answer m root source flat (Ok a) (Err (error.Fault f file)) p q x y =
    some_other (first_table_fault root source flat (found_of m root source flat)) f x.clean y.first
one_answer m root source flat (Ok a) (Err (error.ReadFault file)) p q x y = absurd (true≢false q)
one_answer m root source flat (Ok a) (Err error.NoMemory) p q x y = absurd (true≢false q)
one_answer m root source flat (Err (error.Fault f file)) (Ok b) p q x y =
    some_other (first_table_fault root source flat (found_of m root source flat)) f y.clean x.first
one_answer m root source flat (Err (error.Fault f file)) (Err (error.Fault g other)) p q x y = cc
one_answer m root source flat (Err (error.Fault f file)) (Err (error.ReadFault other)) p q x y = absurd (true≢false q)
one_answer m root source flat (Err (error.Fault f file)) (Err error.NoMemory) p q x y = absurd (true≢false q)
one_answer m root source flat (Err (error.ReadFault file)) b p q x y = absurd (true≢false p)
one_answer m root source flat (Err error.NoMemory) b p q x y = absurd (true≢false p)

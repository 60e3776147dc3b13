-- Turns of loops over places
use Rattle.system_spec.proofs.Common.{Frame, FrameInfo, FrameOf, List, Owned, Part, Some, Tables, [], add-one, all_tables, ap, append-nil, append_assoc, at_place, frame_owner, frame_part, frame_parts, gather, gather_more, length, map, map-append}
use Rattle.system_spec.proofs.Common.{numbered, owned, part, parts, refl, sections, slice_get, suc, sym, table_parts, take, together, ℕ, ◌++◌, ◌+◌, ◌<◌, ◌∙◌, ◌∷◌, ◌≡◌}
use Rattle.std.proofs.lemmas.Grind.{flat_map-append}

-- where what comes from an element depends on its place alone
pub place_turn : {X Y : Type 0} (f : ℕ → X → List Y) (xs : List X) (i : ℕ) (old mid new : List Y) → i < length xs
    → mid ≡ old ++ gather f (take i xs) → ((x : X) → new ≡ mid ++ f i x) → new ≡ old ++ gather f (take (i + 1) xs)
place_turn {X} {Y} f xs i old mid new l e g =
    let at : (x : X) × (slice_get xs i ≡ Some x) = at_place xs i l in
    g at.0 ∙ ap (λ z. z ++ f i at.0) e ∙ append_assoc old (gather f (take i xs)) (f i at.0)
    ∙ ap (λ z. old ++ z) (sym (ap (λ k. gather f (take k xs)) (add-one i) ∙ gather_more f xs i at.0 at.1))

-- what comes from one thing for each element comes from the element
pub gather_twice : {X Y Z : Type 0} (g : ℕ → Y → List Z) (f : ℕ → X → Y) (xs : List X)
    → gather g (gather (λ n x. f n x ∷ []) xs) ≡ gather (λ n x. g n (f n x)) xs
gather_twice g f [] = refl
gather_twice g f (x ∷ xs) = ap (λ z. g 0 (f 0 x) ++ z) (gather_twice (λ n y. g (suc n) y) (λ n y. f (suc n) y) xs)

pub mapped_ones : {X Y Z : Type 0} (h : Y → Z) (f : ℕ → X → Y) (xs : List X)
    → map h (gather (λ n x. f n x ∷ []) xs) ≡ gather (λ n x. h (f n x) ∷ []) xs
mapped_ones h f [] = refl
mapped_ones h f (x ∷ xs) = ap (λ z. h (f 0 x) ∷ z) (mapped_ones h (λ n y. f (suc n) y) xs)

-- what is made of each frame is made of its part
pub frames_mapped : {Z : Type 0} (h : Part → Z) (frames : List FrameInfo)
    → gather (λ f x. h (frame_part f x) ∷ []) frames ≡ map h (numbered Frame (frame_parts frames))
frames_mapped h frames =
    sym (ap (map h) (gather_twice (λ n (x : Owned). part Frame n x.owner x.what ∷ []) (λ f (x : FrameInfo).
    owned (frame_owner x.owner) (FrameOf f)) frames) ∙ mapped_ones h frame_part frames)

-- what is made of the sections before, of page tables and of frames is made of all parts
pub mapped_parts : {Z : Type 0} (t : Tables) (h : Part → Z) → (map h (together (take 6 (sections t)))
    ++ map h (table_parts (all_tables t))) ++ map h (numbered Frame (frame_parts t.spaces.frames)) ≡ map h (parts t)
mapped_parts t h =
    let front = take 6 (sections t) in
    let s = table_parts (all_tables t) in
    let last = numbered Frame (frame_parts t.spaces.frames) in
    append_assoc (map h (together front)) (map h s) (map h last)
    ∙ ap (λ z. map h (together front) ++ (map h s ++ z)) (sym (ap (map h) (append-nil last)))
    ∙ ap (λ z. map h (together front) ++ z) (sym (map-append h s (last ++ [])))
    ∙ sym (map-append h (together front) (s ++ (last ++ [])))
    ∙ ap (map h) (sym (flat_map-append (λ x. x) front (s ∷ last ∷ [])))

-- Lines that end with a capability, and lines of bare frames, written in one piece
use Rattle.capdl_write.proofs.Common.{Bool, List, None, Rights, Some, [], ap, append_assoc, false, frame_line, has_rights, hex_text, params, refl, rights_word, rules, sym, true, ℕ, ◌++◌, ◌∙◌, ◌∷◌, ◌≡◌}
use Rattle.std.proofs.Common.{codes, append-nil}
use Rattle.cam_base.specs.Texts.{◌⊹◌, together}

-- two pieces in front, the name of an object, what follows, and the end of the line
in_line : (word mark name rest : List ℕ) → word ++ (mark ++ (name ++ (rest ++ codes "\n"))) ≡ together (word ∷ mark ∷ [])
    ⊹ (name ⊹ rest ⊹ codes "\n")
unfolding together ◌⊹◌
in_line word mark name rest = search (rules, append_assoc, append-nil)

pub without_badge : (word mark name rest : List ℕ) → together (word ∷ mark ∷ name ∷ (rest ⊹ codes "\n") ∷ [])
    ≡ together (word ∷ mark ∷ []) ⊹ (name ⊹ rest ⊹ codes "\n")
unfolding together ◌⊹◌
without_badge word mark name rest =
    ap (λ z. word ++ (mark ++ (name ++ z))) (append-nil (rest ++ codes "\n")) ∙ in_line word mark name rest

-- the rights that a capability without a badge has, in brackets, and the end of the line
abbrev bare_end : List ℕ → List ℕ
bare_end [] = codes "\n"
bare_end (l ∷ ls) = codes " (" ++ ((l ∷ ls) ++ codes ")\n")

abbrev rights : Bool → Bool → Bool → Bool → Rights
rights a b c d = record { read = a; write = b; grant = c; reply = d }

bracketed : (w : List ℕ) → codes " (" ++ (w ++ codes ")\n") ≡ together (codes " (" ∷ w ∷ codes ")" ∷ []) ⊹ codes "\n"
unfolding together ◌⊹◌
bracketed w = ap (λ z. codes " (" ++ z) (sym (append_assoc w (codes ")") (codes "\n")))

plain_end : (a b c d : Bool) → bare_end (rights_word (rights a b c d))
    ≡ params (has_rights (rights a b c d)) false (rights a b c d) 0 ⊹ codes "\n"
unfolding ◌⊹◌
plain_end true b c d = bracketed (rights_word (rights true b c d))
plain_end false true c d = bracketed (rights_word (rights false true c d))
plain_end false false true d = bracketed (rights_word (rights false false true d))
plain_end false false false true = bracketed (rights_word (rights false false false true))
plain_end false false false false = refl

pub end_is : (r : Rights) (a b c d : Bool) → r.read ≡ a → r.write ≡ b → r.grant ≡ c → r.reply ≡ d
    → bare_end (rights_word (rights a b c d)) ≡ params (has_rights r) false r 0 ⊹ codes "\n"
end_is r a b c d p q s t = search (rules, plain_end)

pub with_badge : (word mark name badge : List ℕ) → together (word ∷ mark ∷ name ∷ codes " (badge: " ∷ badge ∷ codes ")\n" ∷ [])
    ≡ together (word ∷ mark ∷ []) ⊹ (name ⊹ together (codes " (badge: " ∷ badge ∷ codes ")" ∷ []) ⊹ codes "\n")
unfolding together
with_badge word mark name badge =
    ap (λ z. word ++ (mark ++ (name ++ (codes " (badge: " ++ z)))) (sym (append_assoc badge (codes ")") (codes "\n")))
    ∙ in_line word mark name (together (codes " (badge: " ∷ badge ∷ codes ")" ∷ []))

pub with_both : (word mark name rights badge : List ℕ) → together (word ∷ mark ∷ name ∷ codes " (" ∷ rights ∷ codes ", badge: "
    ∷ badge ∷ codes ")\n" ∷ [])
    ≡ together (word ∷ mark ∷ []) ⊹ (name ⊹ together (codes " (" ∷ rights ∷ codes ", badge: " ∷ badge ∷ codes ")" ∷ [])
    ⊹ codes "\n")
unfolding together
with_both word mark name rights badge =
    ap (λ z. word ++ (mark ++ (name ++ (codes " (" ++ (rights ++ (codes ", badge: " ++ z))))))
    (sym (append_assoc badge (codes ")") (codes "\n"))) ∙ ap (λ z. word ++ (mark ++ (name ++ (codes " (" ++ z))))
    (sym (append_assoc rights (codes ", badge: " ++ (badge ++ codes ")")) (codes "\n")))
    ∙ in_line word mark name (together (codes " (" ∷ rights ∷ codes ", badge: " ∷ badge ∷ codes ")" ∷ []))

pub bare_frame : (name : List ℕ) → together (name ∷ codes " = frame (4k)\n" ∷ []) ≡ frame_line name None None
unfolding together ◌⊹◌
bare_frame name = search (rules, append_assoc, append-nil)

pub device_frame : (name : List ℕ) (paddr : ℕ) → together (name ∷ codes " = frame (4k, paddr: " ∷ hex_text paddr ∷ codes ")\n"
    ∷ []) ≡ frame_line name (Some paddr) None
unfolding together ◌⊹◌
device_frame name paddr = search (rules, append-nil, append_assoc)

pub buffer_word : together (codes "ipc_buffer_slot" ∷ codes ": " ∷ []) ≡ codes "ipc_buffer_slot: "
unfolding together
buffer_word = refl

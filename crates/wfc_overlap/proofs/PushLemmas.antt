-- Four elements, one after another.
use Rattle.std.proofs.Common.{◌≡◌, List, [], ◌∷◌, ◌++◌, ap, ◌∙◌, append_assoc}
pub use Rattle.wfc_lists.proofs.Ranges.{lists_more}

-- four elements, one after another
pub four_pushed : {X : Type 0} (t0 t1 t2 t3 t4 : List X) (a b c d : X) → t1 ≡ t0 ++ a ∷ [] → t2 ≡ t1 ++ b ∷ [] → t3 ≡ t2 ++ c ∷ [] → t4 ≡ t3 ++ d ∷ [] → t4 ≡ t0 ++ (a ∷ b ∷ c ∷ d ∷ [])
four_pushed t0 t1 t2 t3 t4 a b c d one two three four =
    four ∙ ap (λ t. t ++ d ∷ []) (three ∙ ap (λ t. t ++ c ∷ []) (two ∙ ap (λ t. t ++ b ∷ []) one))
    ∙ append_assoc ((t0 ++ a ∷ []) ++ b ∷ []) (c ∷ []) (d ∷ [])
    ∙ append_assoc (t0 ++ a ∷ []) (b ∷ []) (c ∷ d ∷ [])
    ∙ append_assoc t0 (a ∷ []) (b ∷ c ∷ d ∷ [])

-- four elements that are others
pub four_are : {X : Type 0} (a b c d e f g h : X) → a ≡ e → b ≡ f → c ≡ g → d ≡ h → (let four : List X = a ∷ b ∷ c ∷ d ∷ [] in four) ≡ e ∷ f ∷ g ∷ h ∷ []
four_are a b c d e f g h p q r s = ap (λ x. x ∷ b ∷ c ∷ d ∷ []) p ∙ ap (λ x. e ∷ x ∷ c ∷ d ∷ []) q ∙ ap (λ x. e ∷ f ∷ x ∷ d ∷ []) r ∙ ap (λ x. e ∷ f ∷ g ∷ x ∷ []) s

-- What is added to a load board packet by packet, and group by group.
use Rattle.std.proofs.Common.{◌≡◌, ℕ, suc, ◌+◌, List, ◌++◌, refl, ap, ◌∙◌, append_assoc, arith}
use Rattle.board_model.specs.declared.scenario.CallLine.{CallLine}
use Rattle.board_model.specs.LoadBoard.{exchange, exchanges}

pub exchanges-more : (k : ℕ) → exchanges (k + 1) ≡ exchanges k ++ exchange (k + 1)
exchanges-more k = let next : k + 1 ≡ suc k = omega arith in rw next refl

pub three-added : (a b c d x y z : List CallLine) → b ≡ a ++ x → c ≡ b ++ y → d ≡ c ++ z → d ≡ a ++ (x ++ (y ++ z))
three-added a b c d x y z one two three = three ∙ ap (λ (l : List CallLine). l ++ z) two ∙ ap (λ (l : List CallLine). (l ++ y) ++ z) one ∙ simp append_assoc

pub four-added : (a b c d e w x y z : List CallLine) → b ≡ a ++ w → c ≡ b ++ x → d ≡ c ++ y → e ≡ d ++ z → e ≡ a ++ (w ++ (x ++ (y ++ z)))
four-added a b c d e w x y z one two three four =
    three-added b c d e x y z two three four ∙ ap (λ (l : List CallLine). l ++ (x ++ (y ++ z))) one ∙ append_assoc a w (x ++ (y ++ z))

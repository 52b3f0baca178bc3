-- The journals of a report read one after the other.
use Rattle.std.proofs.Common.{◌≡◌, ℕ, ◌-◌, ◌≤◌, List, [], ◌∷◌, Option, Some, None, length, get_or, take, drop, refl, sym, ap, subst, ◌∙◌, arith}
use Rattle.board_model.specs.declared.scenario.Scenario.{Scenario}
use Rattle.report_text.specs.declared.link_pass.JournalLines.{JournalLines}
use Rattle.report_text.specs.JournalRead.{JournalText}
use Rattle.report_text.specs.LaneLeft.{IsTold, AreTold}
use Rattle.report_text.specs.LaneLines.{LaneLine, lane_lines, lanes_of, lanes_told}
use Rattle.report_text.specs.TextLines.{moved, or_else}
use Rattle.report_text.proofs.LeftLemmas.{whole}
use Rattle.report_totals.specs.declared.rings.lanes.DomainLanes.{DomainLanes}
use Rattle.report_text.specs.RingPass.{back_place, given_to, wrong_back, wrong_back_among}
use Rattle.report_totals.specs.SenderLanes.{AreAfter, FindTheirs, AllFindTheirs, IsWalked, AreWalked}

-- the first of these journals, and the others
pub record HasFirst (ts : List JournalText) (c : JournalLines) (others : List JournalLines) : Type 0 where
  pub first : JournalText
  pub rest : List JournalText
  pub all : ts ≡ first ∷ rest
  pub told : IsTold first c
  pub others_told : AreTold rest others

pub has-first : (ts : List JournalText) (cs : List JournalLines) (d : JournalLines) → 1 ≤ length cs → AreTold ts cs → HasFirst ts (get_or cs 0 d) (take (length cs - 1) (drop 1 cs))
has-first ts [] d some told = absurd (omega (arith, some))
has-first [] (c ∷ cs) d some told = absurd told
has-first (t ∷ ts) (c ∷ cs) d some told = record { first = t; rest = ts; all = refl; told = told.0; others_told = subst (λ (xs : List JournalLines). AreTold ts xs) (sym (whole (length (c ∷ cs) - 1) cs (omega arith))) told.1 }

pub none-told : (ts : List JournalText) (cs : List JournalLines) → length cs ≤ 0 → AreTold ts cs → ts ≡ []
none-told [] cs none told = refl
none-told (t ∷ ts) [] none told = absurd told
none-told (t ∷ ts) (c ∷ cs) none told = absurd (omega (arith, none))

module _ (s : Scenario) (js : List JournalText) (t : JournalText) (c : JournalLines) (told : IsTold t c) where
  lines-told : lane_lines t ≡ lanes_told c.text.now
  lines-told = ap lanes_of told.texts

  pub finds-told : FindTheirs s js t.line.domain (lane_lines t) → FindTheirs s js c.domain (lanes_told c.text.now)
  finds-told finds = subst (λ (n : ℕ). FindTheirs s js n (lanes_told c.text.now)) told.domain (subst (FindTheirs s js t.line.domain) lines-told finds)

  pub wrong-told : wrong_back s js t ≡ moved c.number (back_place (given_to s js c.domain) [] (lanes_told c.text.now))
  wrong-told =
      ap (λ (n : ℕ). moved n (back_place (given_to s js t.line.domain) [] (lane_lines t))) told.number
      ∙ ap (λ (n : ℕ). moved c.number (back_place (given_to s js n) [] (lane_lines t))) told.domain
      ∙ ap (λ (ls : List LaneLine). moved c.number (back_place (given_to s js c.domain) [] ls)) lines-told

  pub walked-told : (w : DomainLanes) → w.domain ≡ c.domain → AreAfter s js c.domain (lanes_told c.text.now) w.lanes.items → IsWalked s js t w
  walked-told w same after = record {
    domain = same ∙ sym told.domain;
    lanes = subst (λ (ls : List LaneLine). AreAfter s js t.line.domain ls w.lanes.items) (sym lines-told) (subst (λ (n : ℕ). AreAfter s js n (lanes_told c.text.now) w.lanes.items) (sym told.domain) after);
  }

module _ (s : Scenario) (js ts : List JournalText) (c : JournalLines) (others : List JournalLines) (h : HasFirst ts c others) where
  pub first-finds : AllFindTheirs s js ts → FindTheirs s js h.first.line.domain (lane_lines h.first)
  first-finds finds = (subst (AllFindTheirs s js) h.all finds).0

  pub others-find : AllFindTheirs s js ts → AllFindTheirs s js h.rest
  others-find finds = (subst (AllFindTheirs s js) h.all finds).1

  pub first-wrong : (line : ℕ) → wrong_back s js h.first ≡ Some line → wrong_back_among s js ts ≡ Some line
  first-wrong line is = ap (wrong_back_among s js) h.all ∙ ap (λ (o : Option ℕ). or_else o (wrong_back_among s js h.rest)) is

  pub first-right : wrong_back s js h.first ≡ None → wrong_back_among s js ts ≡ wrong_back_among s js h.rest
  first-right is = ap (wrong_back_among s js) h.all ∙ ap (λ (o : Option ℕ). or_else o (wrong_back_among s js h.rest)) is

  pub all-walked : (w : DomainLanes) (ws : List DomainLanes) → IsWalked s js h.first w → AreWalked s js h.rest ws → AreWalked s js ts (w ∷ ws)
  all-walked w ws first walked = subst (λ (us : List JournalText). AreWalked s js us (w ∷ ws)) (sym h.all) (first, walked)

use Rattle.std.proofs.Common.{◌≡◌, ◌≢◌, ◌-◌, ◌≤◌, ℕ, List, [], ◌∷◌, length, cond, get_or, take, drop, find, Some, sym, ap, subst, ◌∙◌, arith, refl}
use Rattle.std.specs.Prelude.{◌==◌}
use Rattle.std.proofs.lemmas.Bool.{eq-eqb, ne_eqb}
use Rattle.board_model.specs.declared.scenario.Scenario.{Scenario}
use Rattle.board_model.specs.RingImage.{Offer}
use Rattle.report_text.specs.JournalRead.{JournalText}
use Rattle.report_text.specs.LaneLines.{LaneLine, lane_lines}
use Rattle.report_text.specs.LinkPass.{lanes_in}
use Rattle.report_text.proofs.LeftLemmas.{whole}
use Rattle.report_totals.specs.declared.rings.lanes.DomainLanes.{DomainLanes}
use Rattle.report_totals.specs.SenderLanes.{AreAfter, AreWalked, numbers_after, numbers_told}
use Rattle.report_totals.proofs.rings.images.+used_by.Goals as goal

none-walked : (s : Scenario) (js ts : List JournalText) (ws : List DomainLanes) (sender receiver : ℕ) → length ws ≤ 0 → AreWalked s js ts ws → ◌≡◌ {A = List Offer} [] (numbers_told s js ts sender receiver).used
none-walked s js [] ws sender receiver none walked = refl
none-walked s js (t ∷ ts) [] sender receiver none walked = absurd walked
none-walked s js (t ∷ ts) (w ∷ ws) sender receiver none walked = absurd (omega (arith, none))

module _ (s : Scenario) (js : List JournalText) (sender receiver : ℕ) (used : List Offer) where
  by-first : (ts : List JournalText) (ws : List DomainLanes) (d : DomainLanes) → 1 ≤ length ws → AreWalked s js ts ws → (get_or ws 0 d).domain ≡ sender
      → ((domain : ℕ) (lines : List LaneLine) → AreAfter s js domain lines (get_or ws 0 d).lanes.items → used ≡ (numbers_after s js domain lines receiver).used) → used ≡ (numbers_told s js ts sender receiver).used
  by-first ts [] d some walked same found = absurd (omega (arith, some))
  by-first [] (w ∷ ws) d some walked same found = absurd walked
  by-first (t ∷ ts) (w ∷ ws) d some walked same found =
      let is : t.line.domain ≡ sender = sym walked.0.domain ∙ same in
      found t.line.domain (lane_lines t) walked.0.lanes
      ∙ ap (λ (n : ℕ). (numbers_after s js n (lane_lines t) receiver).used) is
      ∙ sym (ap (λ b. (numbers_after s js sender (lanes_in (cond b (Some t) (find (λ k. k.line.domain == sender) ts))) receiver).used) (eq-eqb t.line.domain sender is))

  by-others : (ts : List JournalText) (ws : List DomainLanes) (d : DomainLanes) → 1 ≤ length ws → AreWalked s js ts ws → (get_or ws 0 d).domain ≢ sender
      → ((us : List JournalText) → AreWalked s js us (take (length ws - 1) (drop 1 ws)) → used ≡ (numbers_told s js us sender receiver).used) → used ≡ (numbers_told s js ts sender receiver).used
  by-others ts [] d some walked other rest = absurd (omega (arith, some))
  by-others [] (w ∷ ws) d some walked other rest = absurd walked
  by-others (t ∷ ts) (w ∷ ws) d some walked other rest =
      rest ts (subst (λ (xs : List DomainLanes). AreWalked s js ts xs) (sym (whole (length (w ∷ ws) - 1) ws (omega arith))) walked.1)
      ∙ sym (ap (λ b. (numbers_after s js sender (lanes_in (cond b (Some t) (find (λ k. k.line.domain == sender) ts))) receiver).used) (ne_eqb t.line.domain sender (λ same. other (walked.0.domain ∙ same))))

pub returns-in_default : goal.returns-in_default
returns-in_default t c = λ s js ts walked near. none-walked s js ts c.args.walked.now c.args.sender c.args.receiver (omega (arith, c.in_default.len_below)) walked

pub returns-then-first-sender : goal.returns-then-first-sender
returns-then-first-sender t c = λ s js ts walked near.
    by-first s js c.args.sender c.args.receiver c.used_at.result.now ts c.args.walked.now c.first-item.result c.in-len1-up.len_at_least walked (sym (ap (λ (w : DomainLanes). w.domain) c.first-item.is) ∙ c.if-first-sender.true)
    (λ domain lines after. c.used_at.ensures s js domain lines (subst (AreAfter s js domain lines) (sym (c.deref.ensures.value ∙ ap (λ (w : DomainLanes). w.lanes.items) c.first-item.is)) after) near)

pub returns : goal.returns
returns t c = λ s js ts walked near.
    by-others s js c.args.sender c.args.receiver c.used_by.result.now ts c.args.walked.now c.first-item.result c.in-len1-up.len_at_least walked (λ same. c.if-first-sender.false (ap (λ (w : DomainLanes). w.domain) c.first-item.is ∙ same))
    (λ us walked-us. c.used_by.ensures s js us walked-us near)

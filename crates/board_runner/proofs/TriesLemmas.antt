-- The calls of a line, one after the other.
use Rattle.std.proofs.Common.{◌≡◌, ℕ, suc, ◌<◌, Bool, true, false, ◌&&◌, cond, List, length, None, Option, sym, ap, ◌∙◌, subst}
use Rattle.board_model.specs.declared.scenario.CallLine.{CallLine}
use Rattle.board_model.specs.declared.scenario.Scenario.{Scenario}
use Rattle.board_model.specs.Language.{IsLawfulBoard}
use Rattle.board_model.specs.Step.{limit_of}
use Rattle.board_model.specs.SerialRun as run
use Rattle.board_model.specs.SerialRun.{Running, turned_once, all_turned, others, again_by, called_by, is_tried_at, after_turn_of, last_call, tried, more_calls, line_by, line_run}
use Rattle.board_runner.specs.declared.station.Station.{Station}
use Rattle.board_runner.specs.Runs.{IsSomeRun, IsSomeNext, At, Leads, OthersTurn, KeepCounts, IsNext, after_call, CallsLine, RunsLine}
use Rattle.board_runner.specs.Stations.{IsRun}
use Rattle.board_runner.proofs.StationCounts.{at_place, place_at, next_at}
use Rattle.board_runner.proofs.StationLemmas.{item_at}

-- the stations stand for a run from which so many more calls of the line lead to this one
pub record GoesTo (s : Scenario) (line : CallLine) (left : ℕ) (final : Running) (sts : List Station) : Type 0 where
  pub run : Running
  pub stands : IsRun s run sts
  pub goes : tried s line left run ≡ final

abbrev pub TriedTo : CallLine → ℕ → ℕ → List Station → List Station → Type 0
TriedTo line at left old new = (s : Scenario) (r : Running) → IsLawfulBoard s → At at (IsNext s line) old → IsRun s r old → GoesTo s line left (line_run s r line) new

pub none_tried : (line : CallLine) (at left : ℕ) (sts : List Station) → limit_of line.call ≡ None → left ≡ more_calls line.tries → TriedTo line at left sts sts
none_tried line at left sts ready e s r lawful next h = record { run = r; stands = h; goes = ap (λ (n : ℕ). tried s line n r) e ∙ sym (ap (λ (o : Option ℕ). line_by s line o r) ready) }

-- the line still comes next
pub next_stays : (s : Scenario) (r q : Running) (line : CallLine) (old new : List Station) (at : ℕ) → at < length new → IsRun s r old → IsRun s q new → KeepCounts old new → At at (IsNext s line) old → At at (IsNext s line) new
next_stays s r q line old new at lt h k same next =
    let st = item_at new at lt in
    place_at (IsNext s line) new at st.0 st.1 (next_at s r q line old new at st.0 h k same st.1 next)

and_true : (x b : Bool) → b ≡ (x && true) → x ≡ b
and_true true b e = sym e
and_true false b e = sym e

and_false : (x b : Bool) → b ≡ (x && false) → b ≡ false
and_false true b e = e
and_false false b e = e

-- after a call that is made again, the others make their turns
others_after : (s : Scenario) (line : CallLine) (at : ℕ) (q : Running) (t : run.Station) (r : Running) (mid called new : List Station) → IsLawfulBoard s → at < length called → IsRun s r mid → At at (IsNext s line) mid → KeepCounts mid called → IsRun s (after_call s line true t q) called → OthersTurn at called new → IsRun s (again_by s line t q) new
others_after s line at q t r mid called new lawful lt h next same stands turn =
    let st = item_at called at lt in
    let comes = next_at s r (after_call s line true t q) line mid called at st.0 h stands same st.1 next in
    subst (λ (n : ℕ). IsRun s (all_turned s (after_call s line true t q) (others s n)) new) comes.number
    (at_place (λ x. Leads (λ s r. all_turned s r (others s x.domain.state.number)) called new) called at st.0 st.1 turn s (after_call s line true t q) lawful stands)

pub tried_again : (line : CallLine) (at left : ℕ) (old mid called new : List Station) → at < length mid → at < length called → KeepCounts old mid → KeepCounts mid called → TriedTo line at (suc left) old mid → CallsLine line true true at mid called → OthersTurn at called new → TriedTo line at left old new
tried_again line at left old mid called new in_mid in_called kept same before calls turn s r lawful next h =
    let g = before s r lawful next h in
    let comes = next_stays s r g.run line old mid at in_mid h g.stands kept next in
    let k = calls s g.run lawful comes g.stands in
    let q = turned_once s g.run line.domain in
    let tries = and_true (is_tried_at line k.station) true k.again_is in
    record {
      run = again_by s line k.station q;
      stands = others_after s line at q k.station g.run mid called new lawful in_called g.stands comes same k.stands turn;
      goes =
          sym (ap (λ (o : Option run.Station). after_turn_of s line o (tried s line left) q) k.found
          ∙ ap (λ (b : Bool). cond b (tried s line left (again_by s line k.station q)) (called_by s line k.station q)) tries)
          ∙ g.goes;
    }

-- a call that is not made again is the last one
pub tried_called : (line : CallLine) (at left : ℕ) (old mid new : List Station) → at < length mid → KeepCounts old mid → TriedTo line at (suc left) old mid → CallsLine line true false at mid new → RunsLine line at old new
tried_called line at left old mid new in_mid kept before calls s r lawful next h =
    let g = before s r lawful next h in
    let k = calls s g.run lawful (next_stays s r g.run line old mid at in_mid h g.stands kept next) g.stands in
    let q = turned_once s g.run line.domain in
    let not_tried = and_true (is_tried_at line k.station) false k.again_is in
    subst (λ (z : Running). IsRun s z new)
    (sym (ap (λ (o : Option run.Station). after_turn_of s line o (tried s line left) q) k.found
    ∙ ap (λ (b : Bool). cond b (tried s line left (again_by s line k.station q)) (called_by s line k.station q)) not_tried)
    ∙ g.goes) k.stands

pub not_again : (line : CallLine) (at : ℕ) (is_again : Bool) (old new : List Station) → IsSomeNext line at old → CallsLine line false is_again at old new → is_again ≡ false
not_again line at is_again old new some calls = let k = calls some.scenario some.run some.lawful some.next some.stands in and_false (is_tried_at line k.station) is_again k.again_is

pub tried_last : (line : CallLine) (at : ℕ) (is_again : Bool) (old mid new : List Station) → at < length mid → KeepCounts old mid → TriedTo line at 0 old mid → CallsLine line false is_again at mid new → RunsLine line at old new
tried_last line at is_again old mid new in_mid kept before calls s r lawful next h =
    let g = before s r lawful next h in
    let k = calls s g.run lawful (next_stays s r g.run line old mid at in_mid h g.stands kept next) g.stands in
    let q = turned_once s g.run line.domain in
    let done = and_false (is_tried_at line k.station) is_again k.again_is in
    subst (λ (z : Running). IsRun s z new) (sym (ap (λ (o : Option run.Station). last_call s line o q) k.found) ∙ g.goes)
    (subst (λ (b : Bool). IsRun s (after_call s line b k.station q) new) done k.stands)

-- ---- the stations stand for some run, in which the line comes next

pub some_called : (line : CallLine) (at : ℕ) (may_try is_again : Bool) (old new : List Station) → IsSomeNext line at old → CallsLine line may_try is_again at old new → IsSomeRun new
some_called line at may_try is_again old new some calls =
    let k = calls some.scenario some.run some.lawful some.next some.stands in
    record { scenario = some.scenario; lawful = some.lawful; run = after_call some.scenario line is_again k.station (turned_once some.scenario some.run line.domain); stands = k.stands }

pub some_again : (line : CallLine) (at : ℕ) (mid called new : List Station) → at < length called → at < length new → KeepCounts mid called → KeepCounts called new → IsSomeNext line at mid → CallsLine line true true at mid called → OthersTurn at called new → IsSomeNext line at new
some_again line at mid called new in_called in_new same kept some calls turn =
    let s = some.scenario in
    let k = calls s some.run some.lawful some.next some.stands in
    let q = turned_once s some.run line.domain in
    let stands = others_after s line at q k.station some.run mid called new some.lawful in_called some.stands some.next same k.stands turn in
    record {
      scenario = s;
      lawful = some.lawful;
      run = again_by s line k.station q;
      stands = stands;
      next = next_stays s some.run (again_by s line k.station q) line mid new at in_new some.stands stands (kept ∙ same) some.next;
    }

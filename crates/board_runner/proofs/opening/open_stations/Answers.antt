use Rattle.std.proofs.Common.{◌≡◌, ◌∙◌, ℕ, List, Some, refl, ap, sym, subst, eqb-true, arith, vec_len, vec_capacity}
use Rattle.std.specs.Prelude.{◌==◌}
use Rattle.board_model.specs.declared.scenario.DomainLine.{DomainLine}
use Rattle.board_model.specs.declared.scenario.Scenario.{Scenario}
use Rattle.board_model.specs.Scenario.{rising}
use Rattle.board_model.proofs.BoardsFound.{below}
use Rattle.board_model.proofs.MessageAlls.{found-passes}
use Rattle.board_model.proofs.LawfulBoards.{lawful_is_linked}
use Rattle.domain_core.specs.Carrying.{AnyLink}
use Rattle.board_numbers.specs.Lanes.{line_of_domain}
use Rattle.board_runner.specs.Opened.{IsLineIn, IsOpened, AreOpened}
use Rattle.board_runner.specs.Wired.{wire_at}
use Rattle.board_runner.proofs.OpeningLemmas.{opened-begin, opened-done, opened-next, opened-none, opened-runs, opened-carried}
use Rattle.board_runner.proofs.WiredLemmas.{links-left}
use Rattle.board_runner.proofs.opening.open_stations.Goals as goal
use Rattle.board_runner.proofs.opening.open_stations.Goals.{in-Some+in_ok-links+in_ok-station, in_default-line_of}

named : (s : Scenario) (n : ℕ) (d : DomainLine) → line_of_domain s n ≡ Some d → d.domain ≡ n
named s n d found = eqb-true d.domain n (found-passes (λ (e : DomainLine). e.domain == n) s.domains d found)

line-in : (s : Scenario) (n : ℕ) (d : DomainLine) → line_of_domain s n ≡ Some d → IsLineIn s d
line-in s n d found = subst (λ (m : ℕ). line_of_domain s m ≡ Some d) (sym (named s n d found)) found

pub loop-number-init : goal.loop-number-init
loop-number-init c = record { so_far = opened-begin c.args.wires.items c.args.scenario.now c.in-Ok.stations.items c.in-Ok.ensures.items; rest = λ a b least. refl; few = omega (arith, c.in-Ok.ensures.len); room = omega (arith, c.in-Ok.ensures.capacity) }

pub open_station-requires-clause-board : goal.open_station-requires-clause-board
open_station-requires-clause-board c = lawful_is_linked c.args.scenario.now c.requires.lawful

pub open_station-requires-clause-line : goal.open_station-requires-clause-line
open_station-requires-clause-line c = line-in c.args.scenario.now c.loop-number.number c.in-Some.line (sym c.in-Some.ensures)

pub open_station-requires-clause-links : goal.open_station-requires-clause-links
open_station-requires-clause-links c =
    let s = c.args.scenario.now in
    let d = c.in-Some.line in
    let n = c.loop-number.number in
    let found = sym c.in-Some.ensures in
    (links-left s (lawful_is_linked s c.requires.lawful) c.args.wires.items c.loop-number.wires.items c.requires.wired d (line-in s n d found) n (named s n d found) c.loop-number.invariant.rest c.in_ok-links.links.items c.in_ok-links.ensures.links).1

pub loop-number-preserved : goal.loop-number-preserved
loop-number-preserved c =
    let s = c.args.scenario.now in
    let board = lawful_is_linked s c.requires.lawful in
    let n = c.loop-number.number in
    elim c.match-line_of.branch [
      | in-Some+in_ok-links+in_ok-station w ↦
          let items = rw w.unwrap.ensures at w.push.ensures.items in
          let len = rw w.unwrap.ensures at w.push.ensures.len in
          let pushed = ap vec_len w.stations-is in
          let room = ap vec_capacity w.stations-is in
          let d = w.in-Some.line in
          let found = sym w.in-Some.ensures in
          let same = (links-left s board c.args.wires.items c.loop-number.wires.items c.requires.wired d (line-in s n d found) n (named s n d found) c.loop-number.invariant.rest w.in_ok-links.links.items w.in_ok-links.ensures.links).0 in
          record {
            so_far = opened-next c.args.wires.items s board n d c.loop-number.stations.items c.match-line_of.stations.items w.in_ok-station.station c.loop-number.invariant.so_far found
                (subst (λ (ls : List AnyLink). IsOpened s ls d w.in_ok-station.station) same w.in_ok-station.ensures) (ap (λ v. v.items) w.stations-is ∙ items);
            rest = λ a b least. ap (λ v. wire_at v.items a b) w.wires-is ∙ w.in_ok-links.ensures.others a b (λ e. omega (arith, least, e)) ∙ c.loop-number.invariant.rest a b (omega (arith, least));
            few = omega (arith, len, pushed, c.loop-number.invariant.few);
            room = omega (arith, w.push.ensures.capacity, room, c.loop-number.invariant.room);
          }
      | in_default-line_of w ↦
          let same = ap vec_len w.stations-is in
          let room = ap vec_capacity w.stations-is in
          record {
            so_far = opened-none c.args.wires.items s board n c.loop-number.stations.items _ c.loop-number.invariant.so_far (sym w.in_default-line_of.ensures) (ap (λ v. v.items) w.stations-is);
            rest = λ a b least. ap (λ v. wire_at v.items a b) w.wires-is ∙ c.loop-number.invariant.rest a b (omega (arith, least));
            few = omega (arith, same, c.loop-number.invariant.few);
            room = omega (arith, room, c.loop-number.invariant.room);
          }
    ]

pub returns-clause-carried : goal.returns-clause-carried
returns-clause-carried c =
    let s = c.args.scenario.now in
    let all : c.loop-number.number ≡ 8 = omega arith in
    opened-carried c.args.wires.items s (lawful_is_linked s c.requires.lawful) c.loop-number.stations.items
    (subst (λ (n : ℕ). AreOpened s c.args.wires.items (below (λ (d : DomainLine). d.domain) n (rising s)) c.loop-number.stations.items) all c.loop-number.invariant.so_far)

pub returns-clause-run : goal.returns-clause-run
returns-clause-run c =
    let s = c.args.scenario.now in
    let all : c.loop-number.number ≡ 8 = omega arith in
    opened-runs c.args.wires.items s (lawful_is_linked s c.requires.lawful) c.requires.wired c.loop-number.stations.items
    (subst (λ (n : ℕ). AreOpened s c.args.wires.items (below (λ (d : DomainLine). d.domain) n (rising s)) c.loop-number.stations.items) all c.loop-number.invariant.so_far)

pub returns-clause-opens : goal.returns-clause-opens
returns-clause-opens c =
    let s = c.args.scenario.now in
    let all : c.loop-number.number ≡ 8 = omega arith in
    opened-done c.args.wires.items s (lawful_is_linked s c.requires.lawful) c.loop-number.stations.items
    (subst (λ (n : ℕ). AreOpened s c.args.wires.items (below (λ (d : DomainLine). d.domain) n (rising s)) c.loop-number.stations.items) all c.loop-number.invariant.so_far)

use Rattle.std.proofs.Common.{List, ℕ, ◌+◌, drop, get_or, subst, sym}
use Rattle.std.proofs.lemmas.List.{drop_more}
use Rattle.scenario_cli.proofs.HexLemmas.{Reading, begins, after_digit, after_blank}
use Rattle.scenario_cli.proofs.hex.read_hex.Goals.{in-Some+in_ok-high-in-Some, in-None}
use Rattle.scenario_cli.proofs.hex.read_hex.Goals as goal

pub loop-place-init : goal.loop-place-init
loop-place-init c = rw c.in-Ok.ensures.items (begins c.args.text.now)

pub loop-place-preserved : goal.loop-place-preserved
loop-place-preserved c =
    let text = c.args.text.now in
    let place = c.loop-place.place in
    let so_far = subst (λ (r : List ℕ). Reading text c.loop-place.bytes.items r place c.loop-place.high) (drop_more text place 0 c.loop-place-test.true) c.loop-place.invariant in
    let rest = drop (place + 1) text in
    let x = get_or text place 0 in
    elim c.match-hex_digit.branch [
      | in-Some+in_ok-high-in-Some w ↦
          rw (w.bytes-is, w.high-is) (after_digit text c.loop-place.bytes.items w.take_digit.new.bytes.items rest place x w.in-Some.digit c.loop-place.high w.in_ok-high-in-Some.high (sym w.in-Some.ensures.value) w.in-Some.ensures.small w.in_ok-high-in-Some.ensures.taken so_far)
      | in-None w ↦
          rw (w.bytes-is, w.high-is) (after_blank text c.loop-place.bytes.items rest place x c.loop-place.high (sym w.in-None.ensures.value) (sym w.if-is_blank.ensures) so_far)
    ]

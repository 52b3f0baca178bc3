use Rattle.std.proofs.Common.{ℕ, ap, sym, ◌∙◌, inl, inr, arith, count_by}
use Rattle.std.specs.Prelude.{nat_lt}
use Rattle.std.proofs.lemmas.Bool.Decides.{eqb_tells}
use Rattle.std.proofs.lemmas.List.{length-set, get_or-set_other}
use Rattle.std.proofs.lemmas.Grind.{get_or-set_at}
use Rattle.board_runner.proofs.serial.station_places.Goals as goal

pub loop-number-preserved : goal.loop-number-preserved
loop-number-preserved c =
    let old = c.loop-number.places in
    let here = c.from.result in
    let before = c.loop-number.invariant in
    record {
      eight = length-set old here c.place_of.result ∙ before.eight;
      places = λ n below. elim (eqb_tells n c.loop-number.number) [
        | inl same ↦
            get_or-set_at old here n c.place_of.result 0 (same.1 ∙ sym c.from.ensures) (omega (arith, c.from.ensures, c.loop-number-test.true, c.loop-number.auto.number-end, before.eight)) ∙ c.place_of.ensures
            ∙ ap (λ (k : ℕ). count_by (λ d. nat_lt d.domain k) c.args.domains.now) (sym same.1)
        | inr other ↦ get_or-set_other old here n c.place_of.result 0 (λ e. other.1 (e ∙ c.from.ensures)) ∙ before.places n (omega (arith, below, other.1))
      ];
    }

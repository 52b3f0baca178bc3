use Rattle.std.proofs.Common.{◌≡◌, ◌++◌, ◌+◌, ◌*◌, ℕ, List, length, take, drop, refl, rules, arith}
use Rattle.mc_base.specs.Text.{hex_digits}
use Rattle.outer_io.proofs.Digits.{hex_digits-more}
use Rattle.outer_io.proofs.Writing.{puts_then, puts_nothing}
use Rattle.outer_io.proofs.writer.Writer.put_hex_digits.Goals as goal

pub loop-done-init : goal.loop-done-init
loop-done-init g c = record { so_far = puts_nothing g.K.Sink _; within = omega arith; width = refl }

pub loop-done-preserved : goal.loop-done-preserved
loop-done-preserved g c =
    let piece : List ℕ = c.split_at-in-loop-done.result.0.now in
    let size : length piece ≡ c.min.result = c.split_at-in-loop-done.ensures.front_len in
    let is : piece ≡ take c.min.result (drop c.loop-done.done c.args.bytes.now) = cc (c.split_at-in-loop-done.ensures.front, c.split_at.ensures.back) in
    let text : hex_digits (take (c.loop-done.done + length piece) c.args.bytes.now) ≡ hex_digits (take c.loop-done.done c.args.bytes.now) ++ take (2 * length piece) c.spell_hex.new.digits =
    rw (c.spell_hex.ensures, size, is) (hex_digits-more c.args.bytes.now c.loop-done.done c.min.result) in
    record {
      so_far = rw text (puts_then g.K.Sink _ _ _ _ _ c.loop-done.invariant.so_far c.put.ensures);
      within = omega (arith, size, c.split_at.ensures.back_len, c.min.ensures);
      width = search rules;
    }

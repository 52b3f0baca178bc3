use Rattle.std.proofs.Common.{◌∙◌, ◌++◌, ℕ, ap}
use Rattle.byteorder.specs.Endian.{little_bytes}
use Rattle.ring_trace.specs.WordImage.{word_entry}
use Rattle.ring_trace.proofs.Pieces.{appended}
use Rattle.ring_trace.proofs.image.push_offered.Goals as goal

pub loop-p-preserved : goal.loop-p-preserved
loop-p-preserved c = appended (word_entry c.args.size c.args.words.now) c.loop-p.p c.args.out.now.items c.loop-p.out.items c.push_field.new.out.items c.loop-p.invariant (c.in_ok-push_field.ensures ∙ ap (λ (w : ℕ). c.loop-p.out.items ++ little_bytes 2 w) c.word_at.ensures)

use Rattle.std.proofs.Common.{◌≡◌, ◌≤◌, ◌<◌, ◌*◌, ℕ, List, Some, length, arith, ap₂, subst, ◌∙◌}
use Rattle.std.specs.Prelude.{min}
use Rattle.mc_base.specs.Limits.{single_size}
use Rattle.mc_base.specs.Pieces.{frames_of_size}
use Rattle.report_replay.specs.Views.{carrier_of}
use Rattle.report_replay.proofs.PutFrames.{item-part, item-past}
use Rattle.report_replay.proofs.frames.Way.put_item.Goals as goal

pub returns-then-n-frames_needed-clause-frame : goal.returns-then-n-frames_needed-clause-frame
returns-then-n-frames_needed-clause-frame c =
    let past : c.frames_needed.result ≤ c.args.n = omega arith in
    item-past c.args.self (carrier_of c.args.carrier) c.args.bytes.now c.args.n (subst (λ (k : ℕ). k ≤ c.args.n) c.frames_needed.ensures past)

pub returns-clause-frame : goal.returns-clause-frame
returns-clause-frame c =
    let bytes : List ℕ = c.args.bytes.now in
    let rest : List ℕ = c.split_at.result.1.now in
    let long : single_size < length bytes = omega arith in
    let fewer : c.args.n < c.frames_needed.result = omega arith in
    let less : c.args.n < frames_of_size (length bytes) = subst (λ (k : ℕ). c.args.n < k) c.frames_needed.ensures fewer in
    let place : c.args.n * 484 ≡ 484 * c.args.n = omega arith in
    let count : c.min.result ≡ min (length rest) 484 = omega arith in
    ap₂ (λ p f. Some (p, f)) c.put_piece.ensures.peer c.put_piece.ensures.frame
    ∙ item-part c.args.self (carrier_of c.args.carrier) bytes c.args.n long less (c.args.n * 484) c.min.result rest place c.split_at.ensures.back count

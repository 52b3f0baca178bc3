use Rattle.std.proofs.Common.{◌≡◌, ◌+◌, ◌-◌, ◌++◌, ◌∙◌, length, drop, refl, ap, arith}
use Rattle.std.proofs.lemmas.List.{drop-drop}
use Rattle.mc_base.specs.Frame.{header}
use Rattle.rpmsg_frame.proofs.writing.encode_into.Goals as goal

-- The payload stands behind the header, and what stood behind it stays.
pub returns-clause-frame : goal.returns-clause-frame
returns-clause-frame c =
    let n = length c.args.payload.now in
    let headed : c.write_header.new.out ≡ header c.args.src c.args.dst n ++ drop 16 c.args.out.now = c.write_header.ensures in
    let rest : drop (16 + n - 16) (drop 16 c.args.out.now) ≡ drop (16 + n) c.args.out.now = drop-drop (16 + n - 16) 16 c.args.out.now ∙ ap (λ k. drop k c.args.out.now) (omega arith) in
    rw (headed, c.copy_from_slice.ensures.after, rest) refl

use Rattle.std.proofs.Common.{◌≡◌, ◌++◌, [], ◌∷◌, Bool, cond, get_or, set, map, ap, subst, ◌∙◌, arith}
use Rattle.std.specs.Prelude.{◌==◌}
use Rattle.report_replay.specs.Naming.{names_for}
use Rattle.report_replay.proofs.NamesAdded.{one-more}
use Rattle.report_replay.proofs.frame_names.FrameNames.add.Goals as goal

pub returns : goal.returns
returns c = λ p small.
    subst (λ n. get_or (map (λ v. v.items) (set c.self.inside.lists c.from.result c.push.new.self)) p [] ≡ names_for p c.args.self.now ++ cond (n == p) (c.args.name ∷ []) []) c.from.ensures
    (one-more (λ v. v.items) c.self.inside.lists c.from.result p c.args.name c.index-self-from.result c.push.new.self (omega (arith, c.from.ensures, c.if-peer-ge8.false)) (c.push.ensures.items ∙ ap (λ (b : Bool). cond b ((get_or c.self.inside.lists c.from.result c.index-self-from.result).items ++ c.args.name ∷ []) (get_or c.self.inside.lists c.from.result c.index-self-from.result).items) (c.if-is_err.ensures.negation))
    ∙ ap (λ ls. names_for p ls ++ cond (c.from.result == p) (c.args.name ∷ []) []) c.self.view_is)

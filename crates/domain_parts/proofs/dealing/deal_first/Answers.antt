use Rattle.std.proofs.Common.{◌≡◌, ◌≤◌, ◌∙◌, arith, sym}
use Rattle.mc_base.specs.Limits.{item_size}
use Rattle.domain_parts.proofs.PieceDeals.{begun-dealt, once, own-dealt, stray-dealt}
use Rattle.domain_parts.proofs.PieceReadings.{piece-read}
use Rattle.domain_parts.proofs.dealing.deal_first.Goals as goal
use Rattle.domain_parts.specs.Verdicts.{beside}

pub returns-then-not-begins : goal.returns-then-not-begins
returns-then-not-begins c = λ frame q said is names replies b s name shows so.
    stray-dealt b s name c.args.peer frame c.args.piece q said is (beside c.args.endpoints.now c.args.requests.now replies names) so (sym (c.begins.ensures q is) ∙ c.if-not-begins.true)

pub returns-then-not-is_whole : goal.returns-then-not-is_whole
returns-then-not-is_whole c = λ frame q said is names replies b s name shows so.
    let p = c.args.piece in
    let carries = piece-read frame p.source p.destination q said in
    let most = carries.most in
    let total = is.total in
    let fits : p.total ≤ item_size = omega (arith, most, total) in
    begun-dealt b s name c.args.peer frame p q said is (beside c.args.endpoints.now c.args.requests.now replies names) so (sym (c.begins.ensures q is) ∙ c.if-not-begins.false) (λ slot. sym c.is_whole.ensures ∙ c.if-not-is_whole.true) fits

pub returns : goal.returns
returns c = λ frame q said is names replies b s name shows so.
    let p = c.args.piece in
    let first = sym (c.begins.ensures q is) ∙ c.if-not-begins.false in
    let whole = sym c.is_whole.ensures ∙ c.if-not-is_whole.false in
    own-dealt b s name c.args.peer frame p q said is so first whole (beside c.args.endpoints.now c.args.requests.now replies names) c.judge_item.result
    (c.judge_item.ensures q.content replies is.size b s (once b s name c.args.peer frame p q said is so first whole) names shows)

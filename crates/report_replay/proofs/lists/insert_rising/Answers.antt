use Rattle.std.proofs.Common.{ap, ◌∙◌}
use Rattle.std.specs.Prelude.{nat_lt, position, unwrap_or}
use Rattle.std.specs.List.{insert}
use Rattle.report_replay.proofs.Removed.{rising-put}
use Rattle.report_replay.proofs.lists.insert_rising.Goals as goal

pub returns : goal.returns
returns c =
    let n = c.args.number in
    let xs = c.args.list.now.items in
    let found = c.first_greater.ensures ∙ ap (position (nat_lt n)) c.deref.ensures.value in
    let place = c.unwrap_or-place.ensures ∙ ap (λ o. unwrap_or o c.len.result) found ∙ ap (unwrap_or (position (nat_lt n) xs)) (c.len.ensures ∙ c.args.list.now.ok.0) in
    c.in-Ok.ensures.items ∙ ap (λ i. insert xs i n) place ∙ rising-put n xs

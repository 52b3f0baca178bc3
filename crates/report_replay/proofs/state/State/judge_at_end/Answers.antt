use Rattle.std.proofs.Common.{◌≡◌, ap, ◌∙◌, Some, option_map, refl, subst}
use Rattle.mc_base.specs.Letter.{plain_letter}
use Rattle.report_replay.specs.Verdicts.{Follows, Judges, known_of}
use Rattle.report_replay.specs.Views.{end_of}
use Rattle.report_replay.specs.contracts.endpoint.Endpoint.{the_view}
use Rattle.report_replay.specs.declared.ends.Heard.TheVariants.{Acts, Keeps, Loses, OutOfPlace}
use Rattle.report_replay.proofs.Letters.{heard-row}
use Rattle.report_replay.proofs.state.State.judge_at_end.Goals as goal

pub returns-in-Acts : goal.returns-in-Acts
returns-in-Acts c = λ item.
    let is : Some c.in-Some-channel.end ≡ c.endpoint.inside.channel = cc in
    let its = heard-row c.args.self.now c.args.way (plain_letter c.args.letter.now) item (the_view c.endpoint.inside) (ap Some c.endpoint.view_is ∙ c.in-Some.ensures) (end_of c.in-Some-channel.end) (ap (option_map end_of) is) (Acts c.in-Acts.left) c.in-Acts.ensures.word c.in-Acts.ensures.left in
    let known = known_of c.args.self.now c.args.way.peer in
    subst (λ r. Follows c.args.way.peer known item r c.act_at.result) its (c.act_at.ensures c.args.way.peer known item)

pub returns-in-Keeps : goal.returns-in-Keeps
returns-in-Keeps c = λ item.
    let is : Some c.in-Some-channel.end ≡ c.endpoint.inside.channel = cc in
    let its = heard-row c.args.self.now c.args.way (plain_letter c.args.letter.now) item (the_view c.endpoint.inside) (ap Some c.endpoint.view_is ∙ c.in-Some.ensures) (end_of c.in-Some-channel.end) (ap (option_map end_of) is) Keeps c.in-Keeps.ensures.word c.in-Keeps.ensures.left in
    let known = known_of c.args.self.now c.args.way.peer in
    subst (λ r. Judges c.args.way.peer known item r c.keep.result) its (c.keep.ensures c.args.way.peer known item)

pub returns-in-Loses : goal.returns-in-Loses
returns-in-Loses c = λ item.
    let is : Some c.in-Some-channel.end ≡ c.endpoint.inside.channel = cc in
    let its = heard-row c.args.self.now c.args.way (plain_letter c.args.letter.now) item (the_view c.endpoint.inside) (ap Some c.endpoint.view_is ∙ c.in-Some.ensures) (end_of c.in-Some-channel.end) (ap (option_map end_of) is) Loses c.in-Loses.ensures.word c.in-Loses.ensures.left in
    record { word = ap (λ r. r.word) its; changes = ap (λ r. r.happens) its; drops = refl; room = tt }

pub returns-in-OutOfPlace : goal.returns-in-OutOfPlace
returns-in-OutOfPlace c = λ item.
    let is : Some c.in-Some-channel.end ≡ c.endpoint.inside.channel = cc in
    let its = heard-row c.args.self.now c.args.way (plain_letter c.args.letter.now) item (the_view c.endpoint.inside) (ap Some c.endpoint.view_is ∙ c.in-Some.ensures) (end_of c.in-Some-channel.end) (ap (option_map end_of) is) OutOfPlace c.in-OutOfPlace.ensures.word c.in-OutOfPlace.ensures.left in
    record { word = ap (λ r. r.word) its; changes = ap (λ r. r.happens) its; drops = refl; room = tt }

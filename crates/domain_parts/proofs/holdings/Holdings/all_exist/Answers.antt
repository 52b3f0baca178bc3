use Rattle.std.proofs.Common.{rules, tests}
use Rattle.std.proofs.lemmas.Iterator.{YieldsList-from_slice}
use Rattle.std.proofs.lemmas.Iterator.Search.{all_from_yields_List}
use Rattle.board_model.specs.Answer.{stands_at}
use Rattle.domain_parts.specs.DomainView.{place_of_id}
use Rattle.domain_parts.specs.Parts.{shown}
use Rattle.domain_parts.proofs.holdings.Holdings.all_exist.Goals as goal

pub returns : goal.returns
returns g c =
    let d = shown c.args.self.now in
    all_from_yields_List (λ id. stands_at d.state (place_of_id d.ids id)) _ _ _ c.all.ensures.ran (YieldsList-from_slice c.args.ids.now cc) (λ x b q k. search (rules, tests))

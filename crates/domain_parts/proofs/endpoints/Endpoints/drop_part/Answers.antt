use Rattle.std.proofs.Common.{◌≡◌, List, rules, ap, subst}
use Rattle.std.proofs.lemmas.Fn.{filter_same}
use Rattle.std.specs.Prelude.{not}
use Rattle.domain_parts.specs.declared.parts.OpenPart.{OpenPart}
use Rattle.domain_parts.specs.InTable.{records_of}
use Rattle.domain_parts.specs.Records.{Records, is_part_of, without_part_of}
use Rattle.domain_parts.proofs.endpoints.Endpoints.drop_part.Goals as goal

pub returns : goal.returns
returns c =
    let left = filter_same _ (λ (o : OpenPart). not (is_part_of c.args.peer o)) _ (λ x b f called. search rules) _ _ c.retain.ensures.filtered in
    subst (λ (r : Records). record (records_of c.self.inside) { parts = c.retain.new.self.items } ≡ without_part_of r c.args.peer) c.self.view_is
    (ap (λ (os : List OpenPart). record (records_of c.self.inside) { parts = os }) left)

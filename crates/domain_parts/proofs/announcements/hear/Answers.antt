use Rattle.std.proofs.Common.{◌∙◌, [], refl, rules, sym, tests}
use Rattle.domain_parts.proofs.Judging.{none-forgotten}
use Rattle.domain_parts.proofs.announcements.hear.Goals as goal

pub returns-else-forget : goal.returns-else-forget
returns-else-forget c = record {
  happens = [];
  row_is = search (rules, tests);
  returned = refl;
  changes = (c.forget.ensures.forgotten ∙ none-forgotten c.in-Some.name c.args.known.now (sym c.forget.ensures.known ∙ c.if-forget.false), refl);
}

use Rattle.std.proofs.Common.{ℕ, ◌<◌, List, [], ◌∷◌, sym, subst}
use Rattle.std.specs.List.{AllByRecursion}
use Rattle.report_text.specs.JournalRead.{JournalText}
use Rattle.report_text.specs.declared.link_pass.JournalLines.{JournalLines}
use Rattle.report_text.specs.LaneLeft.{AreTold, HasFew}
use Rattle.report_text.specs.JournalLanes.{journals_of}
use Rattle.report_text.proofs.link_pass.wrong_lanes.Goals as goal

few-told : (js : List JournalText) (cs : List JournalLines) → AllByRecursion (λ c. c.domain < 8) cs → AreTold js cs → HasFew js
few-told [] cs few told = tt
few-told (j ∷ js) [] few told = absurd told
few-told (j ∷ js) (c ∷ cs) few told = (subst (λ (n : ℕ). n < 8) (sym told.0.domain) few.0, few-told js cs few.1 told.1)

pub returns : goal.returns
returns c = λ s js told given. c.wrong_from.ensures s js js told given (few-told js (journals_of c.args.journals.now) c.requires.domains told) told

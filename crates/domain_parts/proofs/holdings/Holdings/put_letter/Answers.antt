use Rattle.std.proofs.Common.{◌∙◌, ◌∷◌, [], List, ℕ, ap}
use Rattle.board_model.specs.Journal.{noted_all}
use Rattle.board_model.specs.Serial.{put_entry}
use Rattle.domain_parts.proofs.holdings.Holdings.put_letter.Goals as goal

pub returns-clause-told : goal.returns-clause-told
returns-clause-told g c = c.note.ensures.lines ∙ ap (λ (f : List ℕ). noted_all c.args.journal.now.lines (put_entry (c.args.number, f) ∷ [])) c.write-len.ensures.frame

use Rattle.scenario_lang.proofs.ReadBack.{canonical_read_back}
use Rattle.scenario_lang.proofs.reading.canonical_text_is_read_back.Goals as goal

pub returns : goal.returns
returns c = canonical_read_back

use Rattle.bridge_frame.proofs.Letters as letters
use Rattle.bridge_frame.proofs.laws.no_payload_has_two_letters.Goals as goal

pub returns : goal.returns
returns c = letters.no_payload_has_two_letters

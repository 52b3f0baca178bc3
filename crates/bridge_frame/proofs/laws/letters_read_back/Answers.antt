use Rattle.bridge_frame.proofs.Letters as letters
use Rattle.bridge_frame.proofs.laws.letters_read_back.Goals as goal

pub returns : goal.returns
returns c = letters.letters_read_back

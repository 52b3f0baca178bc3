-- Two words of refusal that are written alike are the same.
use Rattle.std.proofs.Common.{◌≡◌, Decides, ap, rules}
use Rattle.std.proofs.lemmas.Bool.Decides.{same_from_decides}
use Rattle.std.proofs.lemmas.Slice.Eq.{bytes_eq-Decides}
use denote.Enum.Bare.{sameb, same_true, true_same}
use Rattle.mc_base.specs.contracts.refusal.Refusal.{the_type}
use Rattle.mc_base.specs.declared.refusal.Refusal.{Refusal}
use Rattle.board_model.specs.Words.{refusal_text, same_word}
use Rattle.board_model.proofs.WordsRead.{same_from_text}

sameb-Decides : (v w : Refusal) → Decides (sameb the_type v w) (refusal_text v ≡ refusal_text w)
sameb-Decides v w = (λ e. ap refusal_text (same_true the_type (search rules) v w e), λ e. true_same the_type v w (same_from_text v w e))

pub sameb-same_word : (v w : Refusal) → sameb the_type v w ≡ same_word v w
sameb-same_word v w = same_from_decides (sameb the_type v w) (same_word v w) (sameb-Decides v w) (bytes_eq-Decides (refusal_text v) (refusal_text w))

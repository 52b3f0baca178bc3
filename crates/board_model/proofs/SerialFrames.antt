-- Frames of the serial run: each is dealt with by its row, in order.
use Rattle.std.proofs.Common.{◌≡◌, ℕ, List, [], ◌∷◌, length, map, None, refl, ap, arith}
use Rattle.board_model.specs.State.{DomainState}
use Rattle.board_model.specs.Deeds.{takes, after_deed}
use Rattle.board_model.specs.Serial.{word_of, dealt}
use Rattle.board_model.proofs.VisitLooks.{HaveWords}

pub dealt_words : (s : DomainState) (peer : ℕ) (frames : List (List ℕ)) → HaveWords s peer (dealt s peer frames)
dealt_words s peer [] = tt
dealt_words s peer (f ∷ fs) = (refl, dealt_words (after_deed s (takes peer None f (word_of s peer f))) peer fs)

pub length-dealt : (s : DomainState) (peer : ℕ) (frames : List (List ℕ)) → length (dealt s peer frames) ≡ length frames
length-dealt s peer [] = refl
length-dealt s peer (f ∷ fs) = omega (arith, length-dealt (after_deed s (takes peer None f (word_of s peer f))) peer fs)

pub frames-dealt : (s : DomainState) (peer : ℕ) (frames : List (List ℕ)) → map (λ t. t.frame) (dealt s peer frames) ≡ frames
frames-dealt s peer [] = refl
frames-dealt s peer (f ∷ fs) = ap (λ (x : List (List ℕ)). f ∷ x) (frames-dealt (after_deed s (takes peer None f (word_of s peer f))) peer fs)

-- The lines of a text of numbers are those that were written.
use Rattle.std.proofs.Common.{◌≡◌, ℕ, List, [], ◌∷◌, ◌++◌, map, refl, ap, ◌∙◌, append_assoc}
use Rattle.std.specs.Prelude.{codes, decimal}
use Rattle.std.specs.List.{flat_map}
use Rattle.board_model.specs.declared.totals.ChannelTotals.{ChannelTotals}
use Rattle.board_model.specs.declared.totals.LanePlaces.{LanePlaces}
use Rattle.board_model.specs.declared.totals.Totals.{Totals}
use Rattle.board_model.specs.Report.{totals_words, channel_text, messages_text, places_text, ending}
use Rattle.board_numbers.specs.NumberLines.{numbers_text}
use Rattle.report_text.specs.TextLines.{lines_in}
use Rattle.report_text.proofs.UnendedWords.{line-first, channel-none, messages-none, places-none}
use Rattle.report_totals.specs.WholeLines.{AreWholeLines}

-- ---- one line after the other

lines-each : {A : Type 0} (f : A → List ℕ) → ((x : A) (rest : List ℕ) → lines_in (f x ++ rest) ≡ f x ∷ lines_in rest) → (xs : List A) (rest : List ℕ) → lines_in (flat_map f xs ++ rest) ≡ map f xs ++ lines_in rest
lines-each f first [] rest = refl
lines-each f first (x ∷ xs) rest = ap lines_in (append_assoc (f x) (flat_map f xs) rest) ∙ first x (flat_map f xs ++ rest) ∙ ap (λ ls. f x ∷ ls) (lines-each f first xs rest)

-- ---- the lines of numbers

channel-first : (c : ChannelTotals) (rest : List ℕ) → lines_in (channel_text c ++ rest) ≡ channel_text c ∷ lines_in rest
channel-first c rest = line-first (codes "channel" ∷ decimal c.owner ∷ decimal c.number ∷ totals_words c.totals) (channel-none c) rest

messages-first : (t : Totals) (rest : List ℕ) → lines_in (messages_text t ++ rest) ≡ messages_text t ∷ lines_in rest
messages-first t rest = line-first (codes "messages" ∷ totals_words t) (messages-none t) rest

places-first : (p : LanePlaces) (rest : List ℕ) → lines_in (places_text p ++ rest) ≡ places_text p ∷ lines_in rest
places-first p rest =
    line-first (codes "lane" ∷ decimal p.from ∷ decimal p.to ∷ codes "free" ∷ decimal p.free ∷ codes "ring" ∷ decimal p.ring ∷ codes "queue" ∷ decimal p.queue ∷ codes "lent" ∷ decimal p.lent ∷ [])
    (places-none p) rest

pub due-lines : (cs : List ChannelTotals) (t : Totals) (ps : List LanePlaces) (rings : List ℕ) (ls : List (List ℕ)) → AreWholeLines rings ls → lines_in (numbers_text cs t ps ++ (rings ++ ending)) ≡ map channel_text cs ++ (messages_text t ∷ (map places_text ps ++ (ls ++ ending ∷ [])))
due-lines cs t ps rings ls whole =
    let last : List ℕ = rings ++ ending in
    ap lines_in (append_assoc (flat_map channel_text cs ++ messages_text t) (flat_map places_text ps) last ∙ append_assoc (flat_map channel_text cs) (messages_text t) (flat_map places_text ps ++ last))
    ∙ lines-each channel_text channel-first cs (messages_text t ++ (flat_map places_text ps ++ last))
    ∙ ap (λ ks. map channel_text cs ++ ks) (messages-first t (flat_map places_text ps ++ last) ∙ ap (λ ks. messages_text t ∷ ks) (lines-each places_text places-first ps last ∙ ap (λ ks. map places_text ps ++ ks) (whole ending)))

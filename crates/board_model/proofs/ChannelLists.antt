-- The lists of a channel's items as the journals tell them are those of its letters and of its deeds.
use Rattle.std.proofs.Common.{◌≡◌, ℕ, Bool, true, false, cond, List, [], ◌∷◌, ◌++◌, map, filter, refl, sym, ap, ◌∙◌}
use Rattle.std.specs.Prelude.{◌==◌}
use Rattle.std.specs.List.{flat_map}
use Rattle.std.proofs.lemmas.List.{map-append}
use Rattle.mc_base.specs.Letter.{PlainLetter, msg, connect, accept, reject, recv_open, send_open, packet, scalar, send_close, recv_close}
use Rattle.mc_base.specs.Reading.{Reading, is_faulty, announces, says, brings}
use Rattle.board_model.specs.Channels.{is_of_channel, contents_of, data_said}
use Rattle.board_model.specs.Deeds.{Deed, after_deed, along}
use Rattle.board_model.specs.State.{Item, DomainState}
use Rattle.board_model.specs.Takings.{takings_by}
use Rattle.board_model.proofs.ChannelWords.{sent_by, data_of, contents, letters_of}
use Rattle.board_model.proofs.HearingLaw.{takes_on, contents-append}

-- ---- the contents of a channel's letters are the data of its frames

said_contents : (n : ℕ) (r : Reading) → contents (sent_by n r) ≡ data_said n r
said_contents n (is_faulty f) = refl
said_contents n (brings src dst q) = refl
said_contents n (announces text address there) = refl
said_contents n (says source destination l) = letter l
  where
    silent : (b : Bool) (k : PlainLetter) → data_of k ≡ [] → contents (cond b (record { source = source; destination = destination; letter = k } ∷ []) []) ≡ []
    silent true k none = ap (λ ds. ds ++ []) none
    silent false k none = refl

    carries : (b : Bool) (k : PlainLetter) (content : List ℕ) → data_of k ≡ content ∷ [] → contents (cond b (record { source = source; destination = destination; letter = k } ∷ []) []) ≡ cond b (content ∷ []) []
    carries true k content is = ap (λ ds. ds ++ []) is
    carries false k content is = refl

    letter : (l : PlainLetter) → contents (sent_by n (says source destination l)) ≡ data_said n (says source destination l)
    letter (connect m kind) = silent (m == n) (connect m kind) refl
    letter (send_open m) = silent (m == n) (send_open m) refl
    letter (send_close m) = silent (m == n) (send_close m) refl
    letter (packet m content) = carries (m == n) (packet m content) content refl
    letter (scalar m bits value) = carries (m == n) (scalar m bits value) _ refl
    letter (msg priority content) = refl
    letter (accept m) = refl
    letter (reject m why) = refl
    letter (recv_open m) = refl
    letter (recv_close m) = refl

pub letters-contents : (n : ℕ) (rs : List Reading) → contents (letters_of n rs) ≡ flat_map (data_said n) rs
letters-contents n [] = refl
letters-contents n (r ∷ rs) = contents-append (sent_by n r) (letters_of n rs) ∙ (ap (λ ds. ds ++ contents (letters_of n rs)) (said_contents n r) ∙ ap (λ ds. data_said n r ++ ds) (letters-contents n rs))

-- ---- what receives took along a run

filter_append : (p : Item → Bool) (xs ys : List Item) → filter p (xs ++ ys) ≡ filter p xs ++ filter p ys
filter_append p [] ys = refl
filter_append p (x ∷ xs) ys = go (p x) (filter_append p xs ys)
  where
    go : (b : Bool) → filter p (xs ++ ys) ≡ filter p xs ++ filter p ys → cond b (x ∷ filter p (xs ++ ys)) (filter p (xs ++ ys)) ≡ cond b (x ∷ filter p xs) (filter p xs) ++ filter p ys
    go true more = ap (λ is. x ∷ is) more
    go false more = more

pub contents_of-append : (o n : ℕ) (xs ys : List Item) → contents_of o n (xs ++ ys) ≡ contents_of o n xs ++ contents_of o n ys
contents_of-append o n xs ys = ap (map (λ i. i.content)) (filter_append (is_of_channel o n) xs ys) ∙ map-append (λ i. i.content) (filter (is_of_channel o n) xs) (filter (is_of_channel o n) ys)

pub takes-along : (o n : ℕ) (s : DomainState) (ds : List Deed) → along (takes_on o n) s ds ≡ contents_of o n (map (λ t. t.item) (along takings_by s ds))
takes-along o n s [] = refl
takes-along o n s (d ∷ ds) =
    ap (λ cs. takes_on o n s d ++ cs) (takes-along o n (after_deed s d) ds)
    ∙ (sym (contents_of-append o n (map (λ t. t.item) (takings_by s d)) (map (λ t. t.item) (along takings_by (after_deed s d) ds)))
    ∙ ap (contents_of o n) (sym (map-append (λ t. t.item) (takings_by s d) (along takings_by (after_deed s d) ds))))

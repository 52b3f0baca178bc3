-- The load boards are lawful: their canonical texts tell them, line by line, and are short enough to be read.
use Rattle.std.proofs.Common.{◌≡◌, ℕ, zero, suc, ◌+◌, ◌-◌, ◌*◌, ◌≤◌, ◌<◌, ◌^◌, Bool, true, false, ◌&&◌, ◌||◌, List, [], ◌∷◌, ◌++◌, length, take, refl, sym, subst, ap, ap₂, ◌∙◌, arith, append_assoc, length-append, inl, inr}
use Rattle.std.specs.Prelude.{codes, decimal, bytes_eq, map}
use Rattle.std.specs.List.{list_any, flat_map, AllByRecursion}
use Rattle.std.proofs.lemmas.List.{append-nil}
use Rattle.std.proofs.lemmas.List.Folds.{list_any-append}
use Rattle.std.proofs.lemmas.Grind.{flat_map-append}
use Rattle.std.proofs.lemmas.Slice.Eq.{bytes_eq-Decides}
use Rattle.board_model.specs.declared.scenario.DomainLine.{DomainLine}
use Rattle.board_model.specs.declared.scenario.LinkLine.{LinkLine}
use Rattle.board_model.specs.declared.scenario.Call.TheVariants.{PktSend, PktRecv, Release}
use Rattle.board_model.specs.declared.scenario.CallLine.{CallLine}
use Rattle.board_model.specs.declared.scenario.Scenario.{Scenario}
use Rattle.board_model.specs.Grammar.{domain_text, link_text, call_text, canonical, IsLawfulDomain}
use Rattle.board_model.specs.FileWords.{number, is_label}
use Rattle.board_model.specs.Forms.{label_of, gives_packet}
use Rattle.board_model.specs.LineReasons.{tells, is_told_of}
use Rattle.board_model.specs.Language.{nothing_told, IsLawfulBoard}
use Rattle.board_model.specs.MadeLines.{tried, once, labelled_tried, packet_label}
use Rattle.board_model.specs.LoadBoard.{ring_numbers, ring_domain, ring_link, packet_bytes, for_each, opening, exchange, exchanges, closing, load_calls, ring_board, load_board, load_limit}
use Rattle.board_model.proofs.LawfulBoards.{lawful-by_text}
use Rattle.board_model.proofs.WordDecimals.{number-decimal}
use Rattle.scenario_lang.proofs.Options.{cases_bool}
use Rattle.scenario_lang.proofs.PlainLemmas.{decimal-few}
use Rattle.scenario_lang.proofs.CanonicalLines.{domain-read, link-read}
use Rattle.scenario_lang.proofs.ReadBack.{IsReadBack, call-more, told-back}
use Rattle.scenario_lang.proofs.LoadLines.{CanTell, line-few, create-can, open_recv-can, open_send-can, send-can, close_send-can, close_recv-can, lookup-can, connect-can, receive-can, wait-can, release-can, packet_label-is, packet_label-few, packet_bytes-fit}

-- ---- lines one after the other

-- each of these lines may be told after those above and those in front of it
abbrev AreTold : (above front lines : List CallLine) → Type 0
AreTold above front [] = Unit {0}
AreTold above front (k ∷ ks) = CanTell (above ++ front) k × AreTold above (front ++ (k ∷ [])) ks

-- the ring with these lines is read back
abbrev AreReadBack : List CallLine → Type 0
AreReadBack lines = IsReadBack (ring_board lines)

lines_on : (above front lines : List CallLine) → AreTold above front lines → AreReadBack (above ++ front) → AreReadBack (above ++ (front ++ lines))
lines_on above front [] told back = subst (λ (ks : List CallLine). AreReadBack (above ++ ks)) (sym (append-nil front)) back
lines_on above front (k ∷ ks) told back =
    let can = told.0 in
    let here : AreReadBack ((above ++ front) ++ (k ∷ [])) = call-more (ring_board (above ++ front)) k can.callee can.arguments can.fits back in
    let next : AreReadBack (above ++ (front ++ (k ∷ []))) = subst AreReadBack (append_assoc above front (k ∷ [])) here in
    subst (λ (xs : List CallLine). AreReadBack (above ++ xs)) (append_assoc front (k ∷ []) ks) (lines_on above (front ++ (k ∷ [])) ks told.1 next)

-- the same from the first of the lines
lines_after : (above lines : List CallLine) → AreTold above [] lines → AreReadBack above → AreReadBack (above ++ lines)
lines_after above lines told back = lines_on above [] lines told (subst AreReadBack (sym (append-nil above)) back)

lines_few : (above front lines : List CallLine) → AreTold above front lines → length (flat_map call_text lines) ≤ 200 * length lines
lines_few above front [] told = omega arith
lines_few above front (k ∷ ks) told = omega (arith, length-append (call_text k) (flat_map call_text ks), told.0.few, lines_few above (front ++ (k ∷ [])) ks told.1)

-- ---- domains and links

ring_lawful : (d : ℕ) → d ≤ 3 → IsLawfulDomain (ring_domain d)
ring_lawful d small = record { domain_fits = omega (arith, small); some_nodes = omega arith; nodes_fit = omega arith; some_pool = omega arith; pool_fits = omega arith }

-- a board without calls
abbrev so_far : List DomainLine → List LinkLine → Scenario
so_far ds ls = record { domains = ds; links = ls; calls = [] }

ring_read : AreReadBack []
ring_read =
    let d0 : DomainLine = ring_domain 0 in
    let d1 : DomainLine = ring_domain 1 in
    let d2 : DomainLine = ring_domain 2 in
    let d3 : DomainLine = ring_domain 3 in
    let ds : List DomainLine = d0 ∷ d1 ∷ d2 ∷ d3 ∷ [] in
    let l0 : LinkLine = ring_link 0 in
    let l1 : LinkLine = ring_link 1 in
    let l2 : LinkLine = ring_link 2 in
    let l3 : LinkLine = ring_link 3 in (
      so_far (d0 ∷ []) [],
      domain-read nothing_told d0 (ring_lawful 0 (omega arith)) refl refl,
      (
        so_far (d0 ∷ d1 ∷ []) [],
        domain-read (so_far (d0 ∷ []) []) d1 (ring_lawful 1 (omega arith)) refl refl,
        (
          so_far (d0 ∷ d1 ∷ d2 ∷ []) [],
          domain-read (so_far (d0 ∷ d1 ∷ []) []) d2 (ring_lawful 2 (omega arith)) refl refl,
          (
            so_far ds [],
            domain-read (so_far (d0 ∷ d1 ∷ d2 ∷ []) []) d3 (ring_lawful 3 (omega arith)) refl refl,
            (
              so_far ds (l0 ∷ []),
              link-read (so_far ds []) l0 (omega arith) (omega arith) (omega arith) refl refl refl,
              (
                so_far ds (l0 ∷ l1 ∷ []),
                link-read (so_far ds (l0 ∷ [])) l1 (omega arith) (omega arith) (omega arith) refl refl refl,
                (
                  so_far ds (l0 ∷ l1 ∷ l2 ∷ []),
                  link-read (so_far ds (l0 ∷ l1 ∷ [])) l2 (omega arith) (omega arith) (omega arith) refl refl refl,
                  (
                    so_far ds (l0 ∷ l1 ∷ l2 ∷ l3 ∷ []),
                    link-read (so_far ds (l0 ∷ l1 ∷ l2 ∷ [])) l3 (omega arith) (omega arith) (omega arith) refl refl refl,
                    refl,
                  ),
                ),
              ),
            ),
          ),
        ),
      ),
    )

-- ---- the opening and the closing

opening_told : AreTold [] [] opening
opening_told = (
  create-can _ 0 1 (omega arith) (omega arith),
  (
    create-can _ 0 2 (omega arith) (omega arith),
    (
      create-can _ 1 1 (omega arith) (omega arith),
      (
        create-can _ 1 2 (omega arith) (omega arith),
        (
          create-can _ 2 1 (omega arith) (omega arith),
          (
            create-can _ 2 2 (omega arith) (omega arith),
            (
              create-can _ 3 1 (omega arith) (omega arith),
              (
                create-can _ 3 2 (omega arith) (omega arith),
                (
                  lookup-can _ 0 (omega arith) refl,
                  (
                    wait-can _ 0 (codes "a") (omega arith) refl (omega arith) refl,
                    (
                      lookup-can _ 1 (omega arith) refl,
                      (
                        wait-can _ 1 (codes "a") (omega arith) refl (omega arith) refl,
                        (
                          lookup-can _ 2 (omega arith) refl,
                          (
                            wait-can _ 2 (codes "a") (omega arith) refl (omega arith) refl,
                            (
                              lookup-can _ 3 (omega arith) refl,
                              (
                                wait-can _ 3 (codes "a") (omega arith) refl (omega arith) refl,
                                (
                                  connect-can _ 0 (omega arith) refl,
                                  (
                                    wait-can _ 0 (codes "c") (omega arith) refl (omega arith) refl,
                                    (
                                      connect-can _ 1 (omega arith) refl,
                                      (
                                        wait-can _ 1 (codes "c") (omega arith) refl (omega arith) refl,
                                        (
                                          connect-can _ 2 (omega arith) refl,
                                          (
                                            wait-can _ 2 (codes "c") (omega arith) refl (omega arith) refl,
                                            (
                                              connect-can _ 3 (omega arith) refl,
                                              (
                                                wait-can _ 3 (codes "c") (omega arith) refl (omega arith) refl,
                                                (
                                                  open_recv-can _ 0 (omega arith),
                                                  (
                                                    open_send-can _ 0 (omega arith),
                                                    (
                                                      open_recv-can _ 1 (omega arith),
                                                      (
                                                        open_send-can _ 1 (omega arith),
                                                        (
                                                          open_recv-can _ 2 (omega arith),
                                                          (
                                                            open_send-can _ 2 (omega arith),
                                                            (
                                                              open_recv-can _ 3 (omega arith),
                                                              (
                                                                open_send-can _ 3 (omega arith),
                                                                tt,
                                                              ),
                                                            ),
                                                          ),
                                                        ),
                                                      ),
                                                    ),
                                                  ),
                                                ),
                                              ),
                                            ),
                                          ),
                                        ),
                                      ),
                                    ),
                                  ),
                                ),
                              ),
                            ),
                          ),
                        ),
                      ),
                    ),
                  ),
                ),
              ),
            ),
          ),
        ),
      ),
    ),
  ),
)

closing_told : (above : List CallLine) → AreTold above [] closing
closing_told above = (
  close_send-can _ 0 (omega arith),
  (
    close_recv-can _ 0 (omega arith),
    (
      close_send-can _ 1 (omega arith),
      (
        close_recv-can _ 1 (omega arith),
        (
          close_send-can _ 2 (omega arith),
          (
            close_recv-can _ 2 (omega arith),
            (
              close_send-can _ 3 (omega arith),
              (
                close_recv-can _ 3 (omega arith),
                tt,
              ),
            ),
          ),
        ),
      ),
    ),
  ),
)

-- ---- an exchange

-- with any label and any bytes
abbrev exchange_with : List ℕ → List ℕ → List CallLine
exchange_with label bytes =
    for_each (λ d. tried d (PktSend 1 bytes) ∷ []) ++ (for_each (λ d. labelled_tried d label (PktRecv 2) ∷ []) ++ for_each (λ d. once d (Release (label_of label)) ∷ []))

-- a label that no line tells is still new after lines that do not tell it
still_new : (d : ℕ) (label : List ℕ) (above front : List CallLine) → list_any (tells d label) above ≡ false → list_any (tells d label) front ≡ false → list_any (tells d label) (above ++ front) ≡ false
still_new d label above front first second = list_any-append (tells d label) above front ∙ ap₂ (λ (a : Bool) (b : Bool). a || b) first second

or_true : (a b : Bool) → b ≡ true → (a || b) ≡ true
or_true true b is = refl
or_true false b is = is

-- and one that the last lines tell is told
told_last : (d : ℕ) (label : List ℕ) (above front : List CallLine) → list_any (λ c. tells d label c && gives_packet c.call) front ≡ true → is_told_of gives_packet (ring_board (above ++ front)) d label ≡ true
told_last d label above front is =
    list_any-append (λ (c : CallLine). tells d label c && gives_packet c.call) above front
    ∙ or_true (list_any (λ (c : CallLine). tells d label c && gives_packet c.call) above) (list_any (λ (c : CallLine). tells d label c && gives_packet c.call) front) is

exchange_told : (above : List CallLine) (label bytes : List ℕ) → is_label label ≡ true → length label ≤ 16 → length bytes ≤ 4 → AllByRecursion (λ b. b < 256) bytes → ((d : ℕ) → d ≤ 3 → list_any (tells d label) above ≡ false) → AreTold above [] (exchange_with label bytes)
exchange_told above label bytes is few short fit new =
    let same : bytes_eq label label ≡ true = (bytes_eq-Decides label label).1 refl in
    let ks : List CallLine = exchange_with label bytes in (
      send-can (above ++ take 0 ks) 0 bytes (omega arith) short fit,
      (
        send-can (above ++ take 1 ks) 1 bytes (omega arith) short fit,
        (
          send-can (above ++ take 2 ks) 2 bytes (omega arith) short fit,
          (
            send-can (above ++ take 3 ks) 3 bytes (omega arith) short fit,
            (
              receive-can (above ++ take 4 ks) 0 label (omega arith) is few (still_new 0 label above (take 4 ks) (new 0 (omega arith)) refl),
              (
                receive-can (above ++ take 5 ks) 1 label (omega arith) is few (still_new 1 label above (take 5 ks) (new 1 (omega arith)) refl),
                (
                  receive-can (above ++ take 6 ks) 2 label (omega arith) is few (still_new 2 label above (take 6 ks) (new 2 (omega arith)) refl),
                  (
                    receive-can (above ++ take 7 ks) 3 label (omega arith) is few (still_new 3 label above (take 7 ks) (new 3 (omega arith)) refl),
                    (
                      release-can (above ++ take 8 ks) 0 label (omega arith) is few (told_last 0 label above (take 8 ks) (rw same refl)),
                      (
                        release-can (above ++ take 9 ks) 1 label (omega arith) is few (told_last 1 label above (take 9 ks) (rw same refl)),
                        (
                          release-can (above ++ take 10 ks) 2 label (omega arith) is few (told_last 2 label above (take 10 ks) (rw same refl)),
                          (
                            release-can (above ++ take 11 ks) 3 label (omega arith) is few (told_last 3 label above (take 11 ks) (rw same refl)),
                            tt,
                          ),
                        ),
                      ),
                    ),
                  ),
                ),
              ),
            ),
          ),
        ),
      ),
    )

-- lines of one label tell no other
apart : (d : ℕ) (label other bytes : List ℕ) → d ≤ 3 → bytes_eq label other ≡ false → list_any (tells d label) (exchange_with other bytes) ≡ false
apart zero label other bytes small differ = rw differ refl
apart (suc zero) label other bytes small differ = rw differ refl
apart (suc (suc zero)) label other bytes small differ = rw differ refl
apart (suc (suc (suc zero))) label other bytes small differ = rw differ refl
apart (suc (suc (suc (suc d)))) label other bytes small differ = absurd (omega (arith, small))

abbrev after_first : List ℕ → List ℕ
after_first [] = []
after_first (b ∷ bs) = bs

labels_differ : (k m : ℕ) → m < k → k < 2 ^ 64 → bytes_eq (packet_label k) (packet_label m) ≡ false
labels_differ k m less small = elim (cases_bool (bytes_eq (packet_label k) (packet_label m))) [
  | inr other ↦ other
  | inl same ↦
      let is : packet_label k ≡ packet_label m = (bytes_eq-Decides (packet_label k) (packet_label m)).0 same in
      let digits : decimal k ≡ decimal m = ap after_first is in
      let equal : k ≡ m = sym (number-decimal k small) ∙ ap number digits ∙ number-decimal m (omega (arith, less, small)) in
      absurd (omega (arith, equal, less))
]

-- the label of a packet is new after the packets before it
new_label : (d k m : ℕ) → d ≤ 3 → m < k → k < 2 ^ 64 → list_any (tells d (packet_label k)) (exchanges m) ≡ false
new_label d k zero small less few = refl
new_label d k (suc m) small less few =
    still_new d (packet_label k) (exchanges m) (exchange (suc m)) (new_label d k m small (omega (arith, less)) few)
    (apart d (packet_label k) (packet_label (suc m)) (packet_bytes (suc m)) small (labels_differ k (suc m) less few))

opening_apart : (d : ℕ) (digits : List ℕ) → d ≤ 3 → list_any (tells d (112 ∷ digits)) opening ≡ false
opening_apart zero digits small = refl
opening_apart (suc zero) digits small = refl
opening_apart (suc (suc zero)) digits small = refl
opening_apart (suc (suc (suc zero))) digits small = refl
opening_apart (suc (suc (suc (suc d)))) digits small = absurd (omega (arith, small))

-- ---- the board

next_told : (n : ℕ) → suc n ≤ load_limit → AreTold (opening ++ exchanges n) [] (exchange (suc n))
next_told n few =
    let k : ℕ = suc n in
    exchange_told (opening ++ exchanges n) (packet_label k) (packet_bytes k) (packet_label-is k (omega (arith, few))) (packet_label-few k (omega (arith, few))) (omega arith) (packet_bytes-fit k)
    (λ d small. still_new d (packet_label k) opening (exchanges n) (opening_apart d (decimal k) small) (new_label d k n small (omega arith) (omega (arith, few))))

exchanges_read : (n : ℕ) → n ≤ load_limit → AreReadBack (opening ++ exchanges n)
exchanges_read zero few = subst AreReadBack (sym (append-nil opening)) (lines_after [] opening opening_told ring_read)
exchanges_read (suc n) few =
    subst AreReadBack (append_assoc opening (exchanges n) (exchange (suc n))) (lines_after (opening ++ exchanges n) (exchange (suc n)) (next_told n few) (exchanges_read n (omega (arith, few))))

load_read : (n : ℕ) → n ≤ load_limit → AreReadBack (load_calls n)
load_read n few = subst AreReadBack (append_assoc opening (exchanges n) closing) (lines_after (opening ++ exchanges n) closing (closing_told (opening ++ exchanges n)) (exchanges_read n few))

-- ---- its size

two_few : (xs ys : List CallLine) (a b : ℕ) → length (flat_map call_text xs) ≤ a → length (flat_map call_text ys) ≤ b → length (flat_map call_text (xs ++ ys)) ≤ a + b
two_few xs ys a b first second = omega (arith, ap length (flat_map-append call_text xs ys), length-append (flat_map call_text xs) (flat_map call_text ys), first, second)

exchanges_few : (n : ℕ) → n ≤ load_limit → length (flat_map call_text (exchanges n)) ≤ 2400 * n
exchanges_few zero few = omega arith
exchanges_few (suc n) few =
    let one_more : 2400 * n + 2400 ≡ 2400 * suc n = omega arith in
    let both = two_few (exchanges n) (exchange (suc n)) (2400 * n) 2400 (exchanges_few n (omega (arith, few))) (lines_few (opening ++ exchanges n) [] (exchange (suc n)) (next_told n few)) in
    subst (λ (m : ℕ). length (flat_map call_text (exchanges n ++ exchange (suc n))) ≤ m) one_more both

calls_few : (n : ℕ) → n ≤ load_limit → length (flat_map call_text (load_calls n)) ≤ 6400 + (2400 * n + 1600)
calls_few n few =
    two_few opening (exchanges n ++ closing) 6400 (2400 * n + 1600) (lines_few [] [] opening opening_told)
    (two_few (exchanges n) closing (2400 * n) 1600 (exchanges_few n few) (lines_few [] [] closing (closing_told [])))

three_few : (ds ls cs : List ℕ) (most : ℕ) → length ds ≤ 1000 → length ls ≤ 1000 → length cs ≤ most → length (ds ++ (ls ++ cs)) ≤ most + 2000
three_few ds ls cs most first second third = omega (arith, length-append ds (ls ++ cs), length-append ls cs, first, second, third)

four_few : {A : Type 0} (text : A → List ℕ) (a b c d : A) → length (text a) ≤ 200 → length (text b) ≤ 200 → length (text c) ≤ 200 → length (text d) ≤ 200 → length (flat_map text (a ∷ b ∷ c ∷ d ∷ [])) ≤ 1000
four_few text a b c d first second third fourth =
    omega (arith, length-append (text a) (text b ++ (text c ++ (text d ++ []))), length-append (text b) (text c ++ (text d ++ [])), length-append (text c) (text d ++ []), length-append (text d) [], first, second, third, fourth)

domain_few : (d : ℕ) → d ≤ 3 → length (domain_text (ring_domain d)) ≤ 200
domain_few d small =
    line-few (codes "domain" ∷ decimal d ∷ codes "nodes" ∷ decimal 1 ∷ codes "pool" ∷ decimal 2 ∷ [])
    (omega (arith, decimal-few d (omega (arith, small)), decimal-few 1 (omega arith), decimal-few 2 (omega arith)))

link_few : (a b : ℕ) → a ≤ 3 → b ≤ 3 → length (link_text (record { driver = a; device = b; size = 16 })) ≤ 200
link_few a b first second =
    line-few (codes "link" ∷ decimal a ∷ decimal b ∷ codes "size" ∷ decimal 16 ∷ [])
    (omega (arith, decimal-few a (omega (arith, first)), decimal-few b (omega (arith, second)), decimal-few 16 (omega arith)))

domains_few : length (flat_map domain_text (map ring_domain ring_numbers)) ≤ 1000
domains_few = four_few domain_text (ring_domain 0) (ring_domain 1) (ring_domain 2) (ring_domain 3) (domain_few 0 (omega arith)) (domain_few 1 (omega arith)) (domain_few 2 (omega arith)) (domain_few 3 (omega arith))

links_few : length (flat_map link_text (map ring_link ring_numbers)) ≤ 1000
links_few = four_few link_text (ring_link 0) (ring_link 1) (ring_link 2) (ring_link 3) (link_few 0 1 (omega arith) (omega arith)) (link_few 1 2 (omega arith) (omega arith)) (link_few 2 3 (omega arith) (omega arith)) (link_few 3 0 (omega arith) (omega arith))

below : (l most : ℕ) → l ≤ most → most < 2 ^ 32 - 2 → l < 2 ^ 32 - 2
below l most le lt = omega (arith, le, lt)

text_few : (n : ℕ) → n ≤ load_limit → length (canonical (ring_board (load_calls n))) < 2 ^ 32 - 2
text_few n few =
    let ds : List ℕ = flat_map domain_text (map ring_domain ring_numbers) in
    let ls : List ℕ = flat_map link_text (map ring_link ring_numbers) in
    let cs : List ℕ = flat_map call_text (load_calls n) in
    let most : ℕ = 6400 + (2400 * n + 1600) in
    below (length (canonical (ring_board (load_calls n)))) (most + 2000) (three_few ds ls cs most domains_few links_few (calls_few n few)) (omega (arith, few))

pub load-lawful : (n : ℕ) → n ≤ load_limit → IsLawfulBoard (load_board n)
unfolding load_board
load-lawful n few =
    let text : List ℕ = canonical (ring_board (load_calls n)) in
    let small : length text < 2 ^ 32 = omega (arith, text_few n few) in
    lawful-by_text text (ring_board (load_calls n)) small (told-back (ring_board (load_calls n)) (omega arith) (load_read n few))

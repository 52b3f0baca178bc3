-- The law of relays, by induction over the channels: what a domain between took of one is what it put to the next, and what it holds.
use Rattle.std.proofs.Common.{◌≡◌, ℕ, zero, suc, ◌+◌, ◌-◌, ◌≤◌, ◌<◌, List, [], ◌++◌, ap, sym, subst, ◌∙◌, arith, append_assoc, append-nil}
use Rattle.board_model.specs.declared.scenario.Scenario.{Scenario}
use Rattle.board_model.specs.Board.{DomainJournal}
use Rattle.board_model.proofs.ChannelLaw.{every-channel-is-kept}
use Rattle.hop_relay.specs.Roles.{FitsRole}
use Rattle.hop_relay.specs.Hop.{sent, received, held, SendsOn}
use Rattle.hop_relay.specs.RelayLaw.{accepted_at, taken_at, left_at, log_at, on_the_way, IsRelayRun, HopFitsLogs, KeepsOrder}
use Rattle.hop_relay.proofs.HopLemmas.{is_hop}
use Rattle.hop_relay.proofs.SourceLemmas.{sends_first}
use Rattle.hop_relay.proofs.RelayChannels.{fits_at, hop_fits}
use Rattle.hop_relay.proofs.RoleNumbers.{is_between}

module _ (packets : List (List ℕ)) (hops size most : ℕ) (s : Scenario) (js : List DomainJournal) (run : IsRelayRun packets hops size most s js) where
  hop : (d : ℕ) → d < hops → HopFitsLogs s js d
  hop d less = hop_fits packets hops size most s js run d less

  channel : (d : ℕ) → accepted_at s js d ≡ taken_at s js d ++ left_at s js d
  channel d = (every-channel-is-kept s js run.linked run.is_run d 1).kept

  sends_on : (d : ℕ) → 0 < d → d < hops → SendsOn (log_at s js d)
  sends_on d after before =
      is_hop d most (log_at s js d) (subst (λ role. FitsRole role (log_at s js d)) (is_between packets hops most d after before) (fits_at packets hops size most s js run d (omega arith))) (log_at s js d) [] (sym (append-nil (log_at s js d)))

  one_more : (d : ℕ) → suc d < hops → taken_at s js d ≡ (taken_at s js (suc d) ++ left_at s js (suc d)) ++ held (log_at s js (suc d))
  one_more d less =
      let next : d + 1 ≡ suc d = omega arith in
      (hop d (omega (arith, less))).taken
      ∙ subst (λ n. received (log_at s js n) ≡ sent (log_at s js (suc d)) ++ held (log_at s js (suc d))) (sym next) (sends_on (suc d) (omega arith) less).kept
      ∙ ap (λ xs. xs ++ held (log_at s js (suc d))) (sym (hop (suc d) less).accepted ∙ channel (suc d))

  order_to : (d : ℕ) → d < hops → accepted_at s js 0 ≡ taken_at s js d ++ on_the_way s js d
  order_to zero less = channel 0
  order_to (suc d) less =
      let taken : List (List ℕ) = taken_at s js (suc d) in
      let left : List (List ℕ) = left_at s js (suc d) in
      let holds : List (List ℕ) = held (log_at s js (suc d)) in
      order_to d (omega (arith, less))
      ∙ ap (λ xs. xs ++ on_the_way s js d) (one_more d less)
      ∙ append_assoc (taken ++ left) holds (on_the_way s js d)
      ∙ append_assoc taken left (holds ++ on_the_way s js d)

  pub keeps_order : 1 ≤ hops → KeepsOrder packets hops s js
  keeps_order some =
      let order = order_to (hops - 1) (omega (arith, some)) in
      let source = sends_first packets (log_at s js 0) (fits_at packets hops size most s js run 0 (omega arith)) in
      record {
        order = order;
        taken_first = (on_the_way s js (hops - 1), order);
        accepted_first = (source.0, source.1 ∙ ap (λ ps. ps ++ source.0) (sym (hop 0 (omega (arith, some))).accepted));
      }

-- Changes of channels and of the entries of their streams by polls, one after the other: none confirms or adds a channel.
use Rattle.std.proofs.Common.{◌≡◌, ℕ, zero, suc, refl, sym, subst}
use Rattle.rtc_parts.specs.AssociationMeaning.{AssociationMeaning}
use Rattle.rtc_sctp.specs.Streams.{SctpStreams}
use Rattle.rtc_channels.specs.Channels.{Channels}
use Rattle.rtc_peer_laws.specs.RowsChanged.{ChangeRows, ConfirmsNone, OnlyActs, PollRows, RowsChange, RowsChanged, RowsPolled, Stayed}
use Rattle.rtc_peer_laws.proofs.ChangedRows.{no_acts, same_rows}

module _ {S : Type 0} (m : AssociationMeaning S) where
  pub one_polled : (held : Channels) (a : SctpStreams S) (held' : Channels) (b : SctpStreams S) (change : RowsChange m held a held' b)
      → ConfirmsNone m held a held' b change → RowsPolled m held a held' b
  one_polled held a held' b change none = record { changes = suc zero; changed = (held, a, (refl, refl), change, none) }

  -- entries and rows stay
  pub polled_stay : (held : Channels) (a : SctpStreams S) (held' : Channels) (b : SctpStreams S) → held' ≡ held → OnlyActs m a b
      → RowsPolled m held a held' b
  polled_stay held a held' b is only = one_polled held a held' b (Stayed (same_rows held held' is) only) tt

  pub polled_same : (held : Channels) (a : SctpStreams S) (held' : Channels) (b : SctpStreams S) → held' ≡ held → b ≡ a
      → RowsPolled m held a held' b
  polled_same held a held' b is same = polled_stay held a held' b is (no_acts m a a b same refl refl refl)

  on : (held : Channels) (a : SctpStreams S) (x : Channels) (c : SctpStreams S) (held' : Channels) (b : SctpStreams S) (n : ℕ)
      → RowsPolled m held a x c → PollRows m n x c held' b → RowsPolled m held a held' b
  on held a x c held' b zero first h =
      subst (λ (y : Channels). RowsPolled m held a y b) (sym h.0) (subst (λ (z : SctpStreams S). RowsPolled m held a x z) (sym h.1) first)
  on held a x c held' b (suc n) first h =
      let before = on held a x c h.0 h.1 n first h.2 in
      record { changes = suc before.changes; changed = (h.0, h.1, before.changed, h.3, h.4) }

  pub polled_on : (held : Channels) (a : SctpStreams S) (x : Channels) (c : SctpStreams S) (held' : Channels) (b : SctpStreams S)
      → RowsPolled m held a x c → RowsPolled m x c held' b → RowsPolled m held a held' b
  polled_on held a x c held' b first h = on held a x c held' b h.changes first h.changed

  changes_of : (n : ℕ) (held : Channels) (a : SctpStreams S) (held' : Channels) (b : SctpStreams S) → PollRows m n held a held' b
      → ChangeRows m n held a held' b
  changes_of zero held a held' b h = (h.0, h.1)
  changes_of (suc n) held a held' b h = (h.0, (h.1, (changes_of n held a h.0 h.1 h.2, h.3)))

  pub polled_changes : (held : Channels) (a : SctpStreams S) (held' : Channels) (b : SctpStreams S) → RowsPolled m held a held' b
      → RowsChanged m held a held' b
  polled_changes held a held' b h = record { changes = h.changes; changed = changes_of h.changes held a held' b h.changed }

-- The row of a channel, by its number: it has no stream, or one of this side. So it stays for each channel that was added here, as channels and the
-- entries of their streams change.
use Rattle.std.proofs.Common.{◌≡◌, ◌∙◌, ℕ, Bool, List, [], ◌∷◌, Some, None, Ok, refl, sym, subst, arith}
use Rattle.rtc_wire.specs.declared.channel_config.ChannelConfig.{ChannelConfig}
use Rattle.rtc_parts.specs.AssociationLaws.{AssociationLaws}
use Rattle.rtc_parts.specs.AssociationMeaning.{AssociationMeaning}
use Rattle.rtc_sctp.specs.Streams.{SctpStreams}
use Rattle.rtc_channels.specs.Ids.{parity_of}
use Rattle.rtc_channels.specs.Allocation.{sought_by}
use Rattle.rtc_channels.specs.Channels.{AreBelow, Channel, Channels, all_confirmed, unconfirmed, with_channel}
use Rattle.rtc_channels.specs.Holds.{all_cancelled}
use Rattle.rtc_peer_polling.proofs.StreamStarts.{started_same, timed_start}
use Rattle.rtc_peer_laws.specs.RowsChanged.{RowsChanged}
use Rattle.rtc_run_laws.specs.OwnOpenings.{IsOfSide}
use Rattle.rtc_run_laws.proofs.NumberedRows.{AreRowsOf, IsNumberSo, KnowsSide, Lasts, cancelled_so, changed_so, confirmed_so, more_rows, more_so}
use Rattle.rtc_run_laws.proofs.OwnedAllocation.{sought_side}
use Rattle.rtc_run_laws.proofs.OwnedRuns.{HasSide}
use Rattle.rtc_run_laws.proofs.SideChanges.{change_side, timed_side}

some_is : (a b : ℕ) → Some a ≡ Some b → a ≡ b
some_is a b h = cc

no_some : (s : ℕ) → None ≡ Some s → ⊥
no_some s h = cc

-- a row has no stream, or one of this side, unless it was settled for it by other means
abbrev pub IsOwnRow : (c : Bool) → Channel → Type 0
IsOwnRow c row = (s : ℕ) → row.stream ≡ Some s → row.negotiated ≡ None → IsOfSide c s

-- and the row is of a channel that was added with this config
abbrev pub IsAddedRow : (c : Bool) → ChannelConfig → Channel → Type 0
IsAddedRow c config row = (row.negotiated ≡ config.negotiated) × IsOwnRow c row

-- so it is for each row of a number
abbrev pub AreOwnOf : (c : Bool) → (number : ℕ) → List Channel → Type 0
AreOwnOf c n rows = AreRowsOf (IsOwnRow c) n rows

-- a number that was given, and its row
abbrev pub IsOwnNumber : (c : Bool) → (number : ℕ) → Channels → Type 0
IsOwnNumber c n held = IsNumberSo (IsOwnRow c) n held

-- the number and the rows of a channel that was added with a config
abbrev pub IsAddedNumber : (c : Bool) → (number : ℕ) → ChannelConfig → Channels → Type 0
IsAddedNumber c n config held = IsNumberSo (IsAddedRow c config) n held

own_rows : (c : Bool) (config : ChannelConfig) (n : ℕ) (rows : List Channel) → AreRowsOf (IsAddedRow c config) n rows → AreOwnOf c n rows
own_rows c config n [] h = tt
own_rows c config n (row ∷ rows) h = ((λ is. (h.0 is).1), own_rows c config n rows h.1)

pub added_own : (c : Bool) (n : ℕ) (config : ChannelConfig) (held : Channels) → IsAddedNumber c n config held → IsOwnNumber c n held
added_own c n config held h = record { below = h.below; rows = own_rows c config n held.rows h.rows }

added_lasts : (c : Bool) (added : ChannelConfig) → Lasts (IsAddedRow c added) (λ client. client ≡ c)
added_lasts c added = record {
  opened = λ row own. own;
  confirmed = λ row config own. own;
  given = λ client t held channel row is e of own. (
    own.0,
    λ s has none.
        subst (λ (k : ℕ). IsOfSide c k) (some_is t s has)
        (sought_side c t held channel (subst (λ (b : Bool). sought_by (parity_of b) held channel ≡ Some t) is e) (of.0 ∙ (sym own.0 ∙ none))),
  );
}

own_side : {S : Type 0} (c : Bool) (m : AssociationMeaning S) (w : AssociationLaws m) → KnowsSide m (λ client. client ≡ c) (HasSide m w c)
own_side c m w = record {
  before = λ held a held' b change side.
      let stays = change_side m w held a held' b change in
      λ e. sym (stays.side e) ∙ side (stays.started e);
  starts = λ now a wake b wake' h started side.
      timed_side m a.state now a wake (Ok tt) b wake' h
      ∙ side (sym (started_same m a b (timed_start m w a.state now a wake (Ok tt) b wake' h)) ∙ started);
}

module _ (c : Bool) (n : ℕ) (added : ChannelConfig) where
  pub confirmed_added : (channels : List (ℕ × ChannelConfig)) (held : Channels) → IsAddedNumber c n added held
      → IsAddedNumber c n added (all_confirmed channels held)
  confirmed_added channels held h = confirmed_so (IsAddedRow c added) n (λ client. client ≡ c) (added_lasts c added) channels held h

  pub cancelled_added : (channels : List (ℕ × ChannelConfig)) (held : Channels) → IsAddedNumber c n added held
      → IsAddedNumber c n added (all_cancelled channels held)
  cancelled_added channels held h = cancelled_so (IsAddedRow c added) n channels held h

  -- a channel is added, with another number than those before
  not_below : (rows : List Channel) → AreBelow n rows → AreRowsOf (IsAddedRow c added) n rows
  not_below [] below = tt
  not_below (row ∷ rows) below = ((λ is. absurd (let less = below.0 in omega (arith, less, is))), not_below rows below.1)

  pub made_new : (held : Channels) → held.given ≡ n → AreBelow held.given held.rows → IsAddedNumber c n added (with_channel held added)
  made_new held is below = record {
    below = omega (arith, is);
    rows =
        more_rows (IsAddedRow c added) n held.rows (unconfirmed held.given added) (λ same. (refl, λ s of none. absurd (no_some s of)))
        (not_below held.rows (subst (λ (k : ℕ). AreBelow k held.rows) is below));
  }

  pub made_added : (held : Channels) (config : ChannelConfig) → IsAddedNumber c n added held → IsAddedNumber c n added (with_channel held config)
  made_added held config h = more_so (IsAddedRow c added) n held (unconfirmed held.given config) refl h

  pub changed_added : {S : Type 0} (m : AssociationMeaning S) (w : AssociationLaws m) (held : Channels) (a : SctpStreams S) (held' : Channels)
      (b : SctpStreams S) → RowsChanged m held a held' b → HasSide m w c b → IsAddedNumber c n added held → IsAddedNumber c n added held'
  changed_added m w held a held' b h side own =
      changed_so (IsAddedRow c added) n (λ client. client ≡ c) (added_lasts c added) m (HasSide m w c) (own_side c m w) held a held' b h side own

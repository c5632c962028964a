-- Changes of channels and of the entries of their streams, one after the other.
use Rattle.std.proofs.Common.{◌≡◌, ◌⊎◌, ◌++◌, inl, inr, ℕ, zero, suc, Bool, true, false, true≢false, List, [], Option, refl, sym, ap, subst, ◌∙◌}
use Rattle.rtc_parts.specs.AssociationActs.{AssociationAct, Moved, moved-append}
use Rattle.rtc_parts.specs.AssociationLaws.{AssociationLaws}
use Rattle.rtc_parts.specs.AssociationMeaning.{AssociationMeaning}
use Rattle.rtc_parts.specs.AssociationWords.{given, told}
use Rattle.rtc_parts.proofs.AssociationLemmas.{given-append, told-append}
use Rattle.rtc_sctp.specs.declared.rtc_sctp_state.RtcSctpState.{RtcSctpState}
use Rattle.rtc_sctp.specs.Streams.{SctpStreams, is_established}
use Rattle.rtc_sctp_laws.proofs.ClosingPolls.{started_moved}
use Rattle.rtc_sctp_laws.specs.StreamActs.{CallDid}
use Rattle.rtc_sctp_laws.specs.StreamMessages.{StreamMessage}
use Rattle.rtc_sctp_laws.proofs.AsideActs.{AsideDid, aside-append}
use Rattle.rtc_channels.specs.Channels.{Channels}
use Rattle.rtc_peer_laws.specs.RowsChanged.{ChangeRows, ClosesRow, MovedUngiven, OnlyActs, RowsChange, RowsChanged, SameRows, Stayed, begun_as}

pub same_rows : (held held' : Channels) → held' ≡ held → SameRows held held'
same_rows held held' is = (ap (λ (x : Channels). x.rows) is, ap (λ (x : Channels). x.given) is)

-- the row that goes where a stream was closed is that of the channel that is found
pub closed_row : (found id : Option ℕ) (pending : Bool) (held held' : Channels) → found ≡ id → ClosesRow id pending held held'
    → ClosesRow found pending held held'
closed_row found id pending held held' is h = subst (λ (o : Option ℕ). ClosesRow o pending held held') (sym is) h

-- what was begun the same way has one state, and one side
state_of : {S : Type 0} (a b : SctpStreams S) → begun_as b ≡ begun_as a → b.state ≡ a.state
state_of a b is = ap (λ (x : RtcSctpState × Bool). x.0) is

client_of : {S : Type 0} (a b : SctpStreams S) → begun_as b ≡ begun_as a → b.client ≡ a.client
client_of a b is = ap (λ (x : RtcSctpState × Bool). x.1) is

module _ {S : Type 0} (m : AssociationMeaning S) where
  -- a call that gave no packet
  pub moved_ungiven : (ins : List (List ℕ)) (wrote : List StreamMessage) (p q : SctpStreams S) → ins ≡ [] → CallDid m ins wrote p q
      → MovedUngiven m p.association q.association
  moved_ungiven ins wrote p q none d = record { acts = d.did.acts; went = d.did.went; none = d.did.given_is ∙ none }

  pub none_changed : (held : Channels) (a : SctpStreams S) → RowsChanged m held a held a
  none_changed held a = record { changes = zero; changed = (refl, refl) }

  pub one_changed : (held : Channels) (a : SctpStreams S) (held' : Channels) (b : SctpStreams S) → RowsChange m held a held' b
      → RowsChanged m held a held' b
  one_changed held a held' b h = record { changes = suc zero; changed = (held, (a, ((refl, refl), h))) }

  -- entries and rows stay
  pub rows_stay : (held : Channels) (a : SctpStreams S) (held' : Channels) (b : SctpStreams S) → held' ≡ held → OnlyActs m a b
      → RowsChanged m held a held' b
  rows_stay held a held' b is only = one_changed held a held' b (Stayed (same_rows held held' is) only)

  pub no_acts : (a n b : SctpStreams S) → b ≡ n → n.association ≡ a.association → n.entries ≡ a.entries → begun_as n ≡ begun_as a → OnlyActs m a b
  no_acts a n b is association entries begun = record {
    acts = [];
    went = ap (λ (x : SctpStreams S). x.association) is ∙ association;
    untold = refl;
    aside = tt;
    entries = ap (λ (x : SctpStreams S). x.entries) is ∙ entries;
    begun = λ e. sym (state_of a b (ap begun_as is ∙ begun)) ∙ e;
    lasts = λ e. inl (ap is_established (sym (state_of a b (ap begun_as is ∙ begun))) ∙ e);
    side = λ e. client_of a b (ap begun_as is ∙ begun);
    ungiven = λ e. inr (record { acts = []; went = ap (λ (x : SctpStreams S). x.association) is ∙ association; none = refl });
  }

  -- such acts that leave entries and state, and give no packet
  pub only_called : (a b : SctpStreams S) → AsideDid m a.association b.association → MovedUngiven m a.association b.association
      → b.entries ≡ a.entries → begun_as b ≡ begun_as a → OnlyActs m a b
  only_called a b d moved entries begun = record {
    acts = d.acts;
    went = d.went;
    untold = d.untold;
    aside = d.aside;
    entries = entries;
    begun = λ e. sym (state_of a b begun) ∙ e;
    lasts = λ e. inl (ap is_established (sym (state_of a b begun)) ∙ e);
    side = λ e. client_of a b begun;
    ungiven = λ e. inr moved;
  }

  -- what is not started was not started before
  pub unstarted_before : AssociationLaws m → (acts : List AssociationAct) (a b : S) → Moved m a acts b → m.started b ≡ false → m.started a ≡ false
  unstarted_before w acts a b went e = by (m.started a) refl
    where
      by : (x : Bool) → m.started a ≡ x → x ≡ false
      by true s = absurd (true≢false (sym (started_moved m w acts a b s went) ∙ e))
      by false s = refl

  -- acts behind others
  pub only_on : AssociationLaws m → (a b c : SctpStreams S) → OnlyActs m a b → OnlyActs m b c → OnlyActs m a c
  only_on w a b c h k = record {
    acts = h.acts ++ k.acts;
    went = moved-append m a.association b.association c.association h.acts k.acts h.went k.went;
    untold = told-append h.acts k.acts ∙ ap (λ l. l ++ told k.acts) h.untold ∙ k.untold;
    aside = aside-append h.acts k.acts h.aside k.aside;
    entries = k.entries ∙ h.entries;
    begun = λ e. h.begun (k.begun e);
    lasts = λ e. last (k.lasts e);
    side = λ e. k.side (started_moved m w h.acts a.association b.association e h.went) ∙ h.side e;
    ungiven = λ e. unstarted (h.ungiven e) (m.started b.association) refl;
  }
    where
      still_started : m.started b.association ≡ true → m.started c.association ≡ true
      still_started s = started_moved m w k.acts b.association c.association s k.went

      first : (is_established a.state ≡ true) ⊎ ((m.started a.association ≡ false) × (m.started b.association ≡ true))
          → (is_established a.state ≡ true) ⊎ ((m.started a.association ≡ false) × (m.started c.association ≡ true))
      first (inl e) = inl e
      first (inr s) = inr (s.0, still_started s.1)

      last : (is_established b.state ≡ true) ⊎ ((m.started b.association ≡ false) × (m.started c.association ≡ true))
          → (is_established a.state ≡ true) ⊎ ((m.started a.association ≡ false) × (m.started c.association ≡ true))
      last (inl e) = first (h.lasts e)
      last (inr s) = inr (unstarted_before w h.acts a.association b.association h.went s.0, s.1)

      joined : MovedUngiven m a.association b.association → (m.started c.association ≡ true) ⊎ MovedUngiven m b.association c.association
          → (m.started c.association ≡ true) ⊎ MovedUngiven m a.association c.association
      joined x (inl s) = inl s
      joined x (inr y) =
          inr
          (record {
            acts = x.acts ++ y.acts;
            went = moved-append m a.association b.association c.association x.acts y.acts x.went y.went;
            none = given-append x.acts y.acts ∙ ap (λ l. l ++ given y.acts) x.none ∙ y.none;
          })

      unstarted : (m.started b.association ≡ true) ⊎ MovedUngiven m a.association b.association → (x : Bool) → m.started b.association ≡ x
          → (m.started c.association ≡ true) ⊎ MovedUngiven m a.association c.association
      unstarted (inl s) x is = inl (still_started s)
      unstarted (inr moved) true is = inl (still_started is)
      unstarted (inr moved) false is = joined moved (k.ungiven is)

  pub rows_same : (held : Channels) (a : SctpStreams S) (held' : Channels) (b : SctpStreams S) → held' ≡ held → b ≡ a
      → RowsChanged m held a held' b
  rows_same held a held' b is same = rows_stay held a held' b is (no_acts a a b same refl refl refl)

  on : (held : Channels) (a : SctpStreams S) (x : Channels) (c : SctpStreams S) (held' : Channels) (b : SctpStreams S) (n : ℕ)
      → RowsChanged m held a x c → ChangeRows m n x c held' b → RowsChanged m held a held' b
  on held a x c held' b zero first h =
      subst (λ (y : Channels). RowsChanged m held a y b) (sym h.0) (subst (λ (z : SctpStreams S). RowsChanged m held a x z) (sym h.1) first)
  on held a x c held' b (suc n) first h =
      let before = on held a x c h.0 h.1.0 n first h.1.1.0 in
      record { changes = suc before.changes; changed = (h.0, (h.1.0, (before.changed, h.1.1.1))) }

  pub changed_on : (held : Channels) (a : SctpStreams S) (x : Channels) (c : SctpStreams S) (held' : Channels) (b : SctpStreams S)
      → RowsChanged m held a x c → RowsChanged m x c held' b → RowsChanged m held a held' b
  changed_on held a x c held' b first h = on held a x c held' b h.changes first h.changed

-- A visit takes work away.
use Rattle.std.proofs.Common.{◌≡◌, ℕ, ◌+◌, ◌≤◌, Bool, true, false, List, ◌++◌, length, length-append, Option, Some, None, refl, sym, ap, subst, arith}
use Rattle.rtc_parts.specs.declared.ppi.Ppi.{Ppi}
use Rattle.rtc_parts.specs.declared.ppi.Ppi.TheVariants as ppi
use Rattle.rtc_parts.specs.AssociationMeaning.{AssociationMeaning}
use Rattle.rtc_parts.specs.AssociationLaws.{AssociationLaws}
use Rattle.rtc_wire.specs.ChannelConfig.{open_of}
use Rattle.rtc_wire.specs.DcepOpen.{open_bytes, header_bytes}
use Rattle.rtc_wire.specs.declared.dcep_open.DcepOpen.{DcepOpen}
use Rattle.rtc_sctp_entries.specs.declared.asked.Asked.{Asked}
use Rattle.rtc_sctp_entries.specs.declared.asked.Asked.TheVariants as did
use Rattle.rtc_sctp_entries.specs.declared.opening.Opening.{Opening}
use Rattle.rtc_sctp_entries.specs.declared.opening.Opening.TheVariants as opened
use Rattle.rtc_sctp_entries.specs.declared.heard.Heard.{Heard}
use Rattle.rtc_sctp_entries.specs.declared.heard.Heard.TheVariants as heard
use Rattle.rtc_sctp_entries.specs.declared.read_message.ReadMessage.{ReadMessage}
use Rattle.rtc_sctp_entries.specs.declared.read_message.ReadMessage.TheVariants as read
use Rattle.rtc_sctp_entries.specs.declared.buffered_threshold_config.BufferedThresholdConfig.{BufferedThresholdConfig}
use Rattle.rtc_sctp_entries.specs.declared.buffered_threshold_config.BufferedThresholdConfig.TheVariants.{Unconfigured, Desired, Configured}
use Rattle.rtc_sctp_entries.specs.declared.stream_entry_state.StreamEntryState.{StreamEntryState}
use Rattle.rtc_sctp_entries.specs.declared.stream_entry_state.StreamEntryState.TheVariants.{AwaitOpen, AwaitConfig, AwaitDcepAck, Open, Closed}
use Rattle.rtc_sctp_entries.specs.declared.stream_entry.StreamEntry.{StreamEntry}
use Rattle.rtc_sctp_entries.specs.declared.met.Met.{Met}
use Rattle.rtc_sctp_entries.specs.declared.met.Met.TheVariants.{Nothing, Again, Output, OutOfMemory}
use Rattle.rtc_sctp_entries.specs.Part.{ReadUnits}
use Rattle.rtc_sctp_entries.specs.Entries.{config_or_fresh, is_short_entry, is_out_of_band, state_credit, mark_credit, threshold_credit, entry_credit, closed_entry}
use Rattle.rtc_sctp_entries.specs.Visits.{Turn, given_config, Marks, Settles, TakesAck, ForEntry, ClosedBy, Closes, NoRoom, Ended, AnnouncedBy, Announces, NoMessage, Written, AnnouncesIf, BegunAs, BegunBy, Begins, RetriedIf, RetriedAt, is_adopted, AdoptedIf, OpenedBy, OpensEntry, AcknowledgedBy, Acknowledges, TakenUpBy, TakesUp, TakenAs, TakesDcep, TakesStreamMessage, ReadBy, ReadsEntry, MayRead, IsRead, NothingUnread, HandedBy, AttendsBy, AttendsIf, VisitsIn, Visits, is_opening_over}
use Rattle.rtc_sctp_entries.proofs.PartLemmas.{units_read}

-- the work that an association and an entry hold
abbrev pub turn_work : {S : Type 0} → AssociationMeaning S → Turn S → ℕ
turn_work m t = m.units t.association + entry_credit t.entry

-- what is met takes this much work away; where nothing is met none comes
abbrev pub Gains : Met → (k old new : ℕ) → Type 0
Gains Nothing k old new = new ≤ old
Gains Again k old new = new + k ≤ old
Gains (Output e) k old new = new + k ≤ old
Gains OutOfMemory k old new = Unit {0}

-- a closing, which never meets nothing
abbrev pub EndGains : Met → (k old new : ℕ) → Type 0
EndGains Nothing k old new = ⊥
EndGains Again k old new = ⊥
EndGains (Output e) k old new = new + k ≤ old
EndGains OutOfMemory k old new = Unit {0}

ends_gain : (met : Met) (k j old mid new : ℕ) → mid + j ≤ old + k → EndGains met k mid new → Gains met j old new
ends_gain Nothing k j old mid new le h = absurd h
ends_gain Again k j old mid new le h = absurd h
ends_gain (Output e) k j old mid new le h = omega (arith, le, h)
ends_gain OutOfMemory k j old mid new le h = tt

pub gains_from : (met : Met) (k j old mid new : ℕ) → mid ≤ old → mid + j ≤ old + k → Gains met k mid new → Gains met j old new
gains_from Nothing k j old mid new le more h = omega (arith, le, h)
gains_from Again k j old mid new le more h = omega (arith, more, h)
gains_from (Output e) k j old mid new le more h = omega (arith, more, h)
gains_from OutOfMemory k j old mid new le more h = tt

length_open : (d : DcepOpen) → length (open_bytes d) ≡ 12 + length d.label + length d.protocol
unfolding header_bytes
length_open d =
    let header : length (header_bytes d) ≡ 12 = refl in
    omega (arith, header, length-append (header_bytes d) (d.label ++ d.protocol), length-append d.label d.protocol)

module _ {S : Type 0} (m : AssociationMeaning S) (w : AssociationLaws m) where
  gain_is : (r : Met) (k old : ℕ) (u : Turn S) (met : Met) (t' : Turn S) → met ≡ r → t' ≡ u → Gains r k old (turn_work m u) → Gains met k old (turn_work m t')
  gain_is r k old u met t' e f g = subst (λ (x : Met). Gains x k old (turn_work m t')) (sym e) (subst (λ (x : Turn S). Gains r k old (turn_work m x)) (sym f) g)

  end_is : (r : Met) (k old : ℕ) (u : Turn S) (met : Met) (t' : Turn S) → met ≡ r → t' ≡ u → EndGains r k old (turn_work m u) → EndGains met k old (turn_work m t')
  end_is r k old u met t' e f g = subst (λ (x : Met). EndGains x k old (turn_work m t')) (sym e) (subst (λ (x : Turn S). EndGains r k old (turn_work m x)) (sym f) g)

  closed_by : (k old : ℕ) (a : Asked) (t : Turn S) (met : Met) (t' : Turn S) → turn_work m (record t { entry = closed_entry t.entry }) + k ≤ old → ClosedBy m a t met t' → EndGains met k old (turn_work m t')
  closed_by k old did.Done t met t' le h = end_is (Output _) k old _ met t' h.0 h.1 le
  closed_by k old did.Refused t met t' le h = end_is (Output _) k old _ met t' h.0 h.1 le
  closed_by k old did.OutOfMemory t met t' le h = end_is OutOfMemory k old _ met t' h.0 h.1 tt

  closes : (k : ℕ) (t : Turn S) (met : Met) (t' : Turn S) → k + 2 ≤ state_credit t.entry.state t.entry.config → Closes m t met t' → EndGains met k (turn_work m t) (turn_work m t')
  closes k t met t' le (NoRoom h) = end_is OutOfMemory k _ _ met t' h.0 h.1 tt
  closes k t met t' le (Ended a q asks h) =
      closed_by k (turn_work m t) a (record t { association = q }) met t' (omega (arith, le, w.end_units t.association q t.entry.id asks.result asks.called)) h

  state_credit_at : (t : Turn S) (st : StreamEntryState) → t.entry.state ≡ st → state_credit t.entry.state t.entry.config ≡ state_credit st t.entry.config
  state_credit_at t st c = ap (λ (x : StreamEntryState). state_credit x t.entry.config) c

  config_credit : (t : Turn S) → t.entry.state ≡ AwaitConfig → state_credit t.entry.state t.entry.config ≡ 6
  config_credit t c = state_credit_at t AwaitConfig c

  opening_closes : (t : Turn S) (met : Met) (t' : Turn S) (old : ℕ) → t.entry.state ≡ AwaitOpen → turn_work m t ≤ old → Closes m t met t' → Gains met 2 old (turn_work m t')
  opening_closes t met t' old c le h = ends_gain met 17 2 old (turn_work m t) _ (omega (arith, le)) (closes 17 t met t' (omega (arith, state_credit_at t AwaitOpen c)) h)

  announced : (k old : ℕ) (a : Asked) (t : Turn S) (met : Met) (t' : Turn S) → state_credit t.entry.state t.entry.config ≡ k + 5 → turn_work m t ≤ old + k → AnnouncedBy m a t met t' → Gains met 2 old (turn_work m t')
  announced k old did.Done t met t' c le h = gain_is Again 2 old _ met t' h.0 h.1 (omega (arith, c, le))
  announced k old did.Refused t met t' c le h = ends_gain met (k + 3) 2 old (turn_work m t) _ (omega (arith, le)) (closes (k + 3) t met t' (omega (arith, c)) h)
  announced k old did.OutOfMemory t met t' c le h = gain_is OutOfMemory 2 old _ met t' h.0 h.1 tt

  settles : (k : ℕ) (t : Turn S) (met : Met) (t' : Turn S) → k + 3 ≤ state_credit t.entry.state t.entry.config → ForEntry Settles t met t' → Gains met k (turn_work m t) (turn_work m t')
  settles k t Nothing t' c h = absurd h.0
  settles k t Again t' c h = absurd h.0
  settles k t (Output o) t' c h = let e = ap (turn_work m) h.1 in let f = ap (λ (x : StreamEntry). m.units t.association + (state_credit x.state x.config + mark_credit x.marked + threshold_credit x.threshold)) h.0.1 in omega (arith, e, f, c)
  settles k t OutOfMemory t' c h = tt

  -- an entry to be opened has this much credit for its state
  open_credit : (t : Turn S) → t.entry.state ≡ AwaitOpen → state_credit t.entry.state t.entry.config ≡ 19 + length (config_or_fresh t.entry.config).label + length (config_or_fresh t.entry.config).protocol
  open_credit t c = ap (λ (st : StreamEntryState). state_credit st t.entry.config) c

  announces : (t : Turn S) (met : Met) (t' : Turn S) → t.entry.state ≡ AwaitOpen → Announces m t met t' → Gains met 2 (turn_work m t) (turn_work m t')
  announces t met t' c (NoMessage h) = gain_is OutOfMemory 2 (turn_work m t) t met t' h.0 h.1 tt
  announces t met t' c (Written a q asks h) =
      let k = 14 + length (config_or_fresh t.entry.config).label + length (config_or_fresh t.entry.config).protocol in
      let credit = open_credit t c in
      let written = w.write_units t.association q t.entry.id ppi.Dcep _ asks.result asks.called in
      let count = length_open (open_of (config_or_fresh t.entry.config)) in
      announced k (turn_work m t) a (record t { association = q }) met t' (omega (arith, credit)) (omega (arith, written, count)) h

  announces_if : (b : Bool) (t : Turn S) (met : Met) (t' : Turn S) → t.entry.state ≡ AwaitOpen → AnnouncesIf m b t met t' → Gains met 2 (turn_work m t) (turn_work m t')
  announces_if true t met t' c h = announces t met t' c h
  announces_if false t met t' c h = opening_closes t met t' (turn_work m t) c (omega arith) h

  begun_as : (b : Bool) (t : Turn S) (met : Met) (t' : Turn S) → t.entry.state ≡ AwaitOpen → BegunAs m b t met t' → Gains met 2 (turn_work m t) (turn_work m t')
  begun_as true t met t' c h = settles 2 t met t' (omega (arith, open_credit t c)) h
  begun_as false t met t' c h = announces_if (is_short_entry t.entry) t met t' c h

  begun : (a : Asked) (t : Turn S) (met : Met) (t' : Turn S) → t.entry.state ≡ AwaitOpen → BegunBy m a t met t' → Gains met 2 (turn_work m t) (turn_work m t')
  begun did.Done t met t' c h = begun_as (is_out_of_band t.entry) t met t' c h
  begun did.Refused t met t' c h = opening_closes t met t' (turn_work m t) c (omega arith) h
  begun did.OutOfMemory t met t' c h = gain_is OutOfMemory 2 (turn_work m t) t met t' h.0 h.1 tt

  begins : (t : Turn S) (met : Met) (t' : Turn S) → t.entry.state ≡ AwaitOpen → Begins m t met t' → Gains met 2 (turn_work m t) (turn_work m t')
  begins t met t' c h =
      let u = record t { association = h.between } in
      let units = w.reliability_units t.association h.between t.entry.id _ _ _ h.asks.result h.asks.called in
      gains_from met 2 2 (turn_work m t) (turn_work m u) (turn_work m t') (omega (arith, units)) (omega (arith, units)) (begun h.answer u met t' c h.then)

  retried_if : (b : Bool) (t : Turn S) (met : Met) (t' : Turn S) → t.entry.state ≡ AwaitOpen → RetriedIf m b t met t' → Gains met 2 (turn_work m t) (turn_work m t')
  retried_if true t met t' c h = opening_closes t met t' (turn_work m t) c (omega arith) h
  retried_if false t met t' c h = gain_is Nothing 2 (turn_work m t) t met t' h.0 h.1 (omega arith)

  retried : (now : ℕ) (o : Option ℕ) (t : Turn S) (met : Met) (t' : Turn S) → t.entry.state ≡ AwaitOpen → RetriedAt m now o t met t' → Gains met 2 (turn_work m t) (turn_work m t')
  retried now None t met t' c h = gain_is Nothing 2 (turn_work m t) _ met t' h.0 h.1 (omega arith)
  retried now (Some first) t met t' c h = retried_if (is_opening_over first now) t met t' c h

  adopted : (b : Bool) (now : ℕ) (t : Turn S) (met : Met) (t' : Turn S) → t.entry.state ≡ AwaitOpen → AdoptedIf m b now t met t' → Gains met 2 (turn_work m t) (turn_work m t')
  adopted true now t met t' c h = begins t met t' c h
  adopted false now t met t' c h = retried now t.entry.refused t met t' c h

  opened_by : (a : Opening) (now : ℕ) (t : Turn S) (met : Met) (t' : Turn S) → t.entry.state ≡ AwaitOpen → OpenedBy m a now t met t' → Gains met 2 (turn_work m t) (turn_work m t')
  opened_by opened.Done now t met t' c h = begins t met t' c h
  opened_by opened.Exists now t met t' c h = adopted (is_adopted m t) now t met t' c h
  opened_by opened.Pending now t met t' c h = retried now t.entry.refused t met t' c h
  opened_by opened.Refused now t met t' c h = opening_closes t met t' (turn_work m t) c (omega arith) h
  opened_by opened.OutOfMemory now t met t' c h = gain_is OutOfMemory 2 (turn_work m t) t met t' h.0 h.1 tt

  opens : (now : ℕ) (t : Turn S) (met : Met) (t' : Turn S) → t.entry.state ≡ AwaitOpen → OpensEntry m now t met t' → Gains met 2 (turn_work m t) (turn_work m t')
  opens now t met t' c h =
      let u = record t { association = h.between } in
      let units = w.open_units t.association h.between t.entry.id h.asks.result h.asks.called in
      gains_from met 2 2 (turn_work m t) (turn_work m u) (turn_work m t') (omega (arith, units)) (omega (arith, units)) (opened_by h.answer now u met t' c h.then)

  -- an open message is taken up: its acknowledgement costs what the entry had for it
  acknowledged : (old : ℕ) (a : Asked) (label : List ℕ) (t : Turn S) (met : Met) (t' : Turn S) → t.entry.state ≡ AwaitConfig → turn_work m t ≤ old + 3 → AcknowledgedBy m a label t met t' → Gains met 0 old (turn_work m t')
  acknowledged old did.Done label t met t' c le h = gain_is (Output _) 0 old _ met t' h.0 h.1 (omega (arith, le, config_credit t c))
  acknowledged old did.Refused label t met t' c le h = ends_gain met 4 0 old (turn_work m t) _ (omega (arith, le)) (closes 4 t met t' (omega (arith, config_credit t c)) h)
  acknowledged old did.OutOfMemory label t met t' c le h = gain_is OutOfMemory 0 old _ met t' h.0 h.1 tt

  acknowledges : (label : List ℕ) (t : Turn S) (met : Met) (t' : Turn S) → t.entry.state ≡ AwaitConfig → Acknowledges m label t met t' → Gains met 0 (turn_work m t) (turn_work m t')
  acknowledges label t met t' c h =
      let written = w.write_units t.association h.between t.entry.id ppi.Dcep _ h.asks.result h.asks.called in
      acknowledged (turn_work m t) h.answer label (record t { association = h.between }) met t' c (omega (arith, written)) h.then

  marks : (k : ℕ) (t : Turn S) (met : Met) (t' : Turn S) → k ≤ 1 → t.entry.marked ≡ false → Marks t met t' → Gains met k (turn_work m t) (turn_work m t')
  marks k t met t' le c h = gain_is Again k (turn_work m t) _ met t' h.0 h.1 (omega (arith, le, ap mark_credit c))

  taken_up : (a : Asked) (label : List ℕ) (t : Turn S) (met : Met) (t' : Turn S) → t.entry.state ≡ AwaitConfig → t.entry.marked ≡ false → TakenUpBy m a label t met t' → Gains met 0 (turn_work m t) (turn_work m t')
  taken_up did.Done label t met t' c n h = acknowledges label t met t' c h
  taken_up did.Refused label t met t' c n h = marks 0 t met t' (omega arith) n h
  taken_up did.OutOfMemory label t met t' c n h = gain_is OutOfMemory 0 (turn_work m t) t met t' h.0 h.1 tt

  takes_up : (label : List ℕ) (t : Turn S) (met : Met) (t' : Turn S) → t.entry.state ≡ AwaitConfig → t.entry.marked ≡ false → TakesUp m label t met t' → Gains met 0 (turn_work m t) (turn_work m t')
  takes_up label t met t' c n h =
      let u = record t { association = h.between } in
      let units = w.reliability_units t.association h.between t.entry.id _ _ _ h.asks.result h.asks.called in
      gains_from met 0 0 (turn_work m t) (turn_work m u) (turn_work m t') (omega (arith, units)) (omega (arith, units)) (taken_up h.answer label u met t' c n h.then)

  taken_as : (r : ReadMessage) (t : Turn S) (met : Met) (t' : Turn S) → t.entry.state ≡ AwaitConfig → t.entry.marked ≡ false → TakenAs m r t met t' → Gains met 0 (turn_work m t) (turn_work m t')
  taken_as (read.Open label config) t met t' c n h =
      let u = record t { entry = record t.entry { config = given_config t.entry.config config } } in
      let before = config_credit t c in
      let behind = config_credit u c in
      gains_from met 0 0 (turn_work m t) (turn_work m u) (turn_work m t') (omega (arith, before, behind)) (omega (arith, before, behind)) (takes_up label u met t' c n h)
  taken_as read.Malformed t met t' c n h = marks 0 t met t' (omega arith) n h
  taken_as read.OutOfMemory t met t' c n h = gain_is OutOfMemory 0 (turn_work m t) t met t' h.0 h.1 tt

  acked : (bytes : List ℕ) (t : Turn S) (met : Met) (t' : Turn S) → t.entry.state ≡ AwaitDcepAck → t.entry.marked ≡ false → ForEntry (TakesAck bytes) t met t' → Gains met 0 (turn_work m t) (turn_work m t')
  acked bytes t Nothing t' c n h = absurd h.0
  acked bytes t Again t' c n h =
      let e = ap (turn_work m) h.1 in
      let f = ap (λ (x : StreamEntry). m.units t.association + entry_credit x) h.0.1 in
      omega (arith, e, f, ap mark_credit n)
  acked bytes t (Output o) t' c n h = settles 0 t (Output o) t' (omega (arith, ap (λ (st : StreamEntryState). state_credit st t.entry.config) c)) (h.0.1, h.1)
  acked bytes t OutOfMemory t' c n h = tt

  dcep : (st : StreamEntryState) (bytes : List ℕ) (t : Turn S) (met : Met) (t' : Turn S) → t.entry.state ≡ st → t.entry.marked ≡ false → TakesDcep m st bytes t met t' → Gains met 0 (turn_work m t) (turn_work m t')
  dcep AwaitConfig bytes t met t' c n h = taken_as h.message t met t' c n h.then
  dcep AwaitDcepAck bytes t met t' c n h = acked bytes t met t' c n h
  dcep AwaitOpen bytes t met t' c n h = marks 0 t met t' (omega arith) n h
  dcep Open bytes t met t' c n h = marks 0 t met t' (omega arith) n h
  dcep Closed bytes t met t' c n h = marks 0 t met t' (omega arith) n h

  message : (i : Ppi) (bytes : List ℕ) (t : Turn S) (met : Met) (t' : Turn S) → t.entry.marked ≡ false → TakesStreamMessage m i bytes t met t' → Gains met 0 (turn_work m t) (turn_work m t')
  message ppi.Dcep bytes t met t' n h = dcep t.entry.state bytes t met t' refl n h
  message ppi.Text bytes t met t' n h = gain_is (Output _) 0 (turn_work m t) t met t' h.0 h.1 (omega arith)
  message ppi.Binary bytes t met t' n h = gain_is (Output _) 0 (turn_work m t) t met t' h.0 h.1 (omega arith)
  message ppi.EmptyText bytes t met t' n h = gain_is (Output _) 0 (turn_work m t) t met t' h.0 h.1 (omega arith)
  message ppi.EmptyBinary bytes t met t' n h = gain_is (Output _) 0 (turn_work m t) t met t' h.0 h.1 (omega arith)
  message (ppi.Other x) bytes t met t' n h = marks 0 t met t' (omega arith) n h

  read_by : (a : Heard) (old : ℕ) (t : Turn S) (met : Met) (t' : Turn S) → t.entry.marked ≡ false → ReadUnits a old (m.units t.association) → ReadBy m a t met t' → Gains met 1 (old + entry_credit t.entry) (turn_work m t')
  read_by heard.Nothing old t met t' n u h = gain_is Nothing 1 _ t met t' h.0 h.1 (omega (arith, u))
  read_by (heard.Message i bytes) old t met t' n u h = gains_from met 0 1 _ (turn_work m t) _ (omega (arith, u)) (omega (arith, u)) (message i bytes t met t' n h)
  read_by heard.Refused old t met t' n u h = gains_from met 1 1 _ (turn_work m t) _ (omega (arith, u)) (omega (arith, u)) (marks 1 t met t' (omega arith) n h)
  read_by heard.OutOfMemory old t met t' n u h = gain_is OutOfMemory 1 _ t met t' h.0 h.1 tt

  reads : (t : Turn S) (met : Met) (t' : Turn S) → t.entry.marked ≡ false → ReadsEntry m t met t' → Gains met 1 (turn_work m t) (turn_work m t')
  reads t met t' n h =
      let units = units_read m w t.association h.between t.entry.id h.asks.result h.asks.called in
      read_by h.answer (m.units t.association) (record t { association = h.between }) met t' n
      (subst (λ (x : Heard). ReadUnits x (m.units t.association) (m.units h.between)) h.asks.is units) h.then

  may_read : (t : Turn S) (met : Met) (t' : Turn S) → t.entry.marked ≡ false → MayRead m t met t' → Gains met 1 (turn_work m t) (turn_work m t')
  may_read t met t' n (IsRead h) = reads t met t' n h
  may_read t met t' n (NothingUnread unread e f) = gain_is Nothing 1 (turn_work m t) t met t' e f (omega arith)

  handed : (a : Asked) (old n : ℕ) (t : Turn S) (met : Met) (t' : Turn S) → t.entry.threshold ≡ Desired n → turn_work m t ≤ old → HandedBy m a n t met t' → Gains met 1 old (turn_work m t')
  handed did.Done old n t met t' c le h = gain_is Again 1 old _ met t' h.0 h.1 (omega (arith, le, ap threshold_credit c))
  handed did.Refused old n t met t' c le h = gain_is Again 1 old _ met t' h.0 h.1 (omega (arith, le, ap threshold_credit c))
  handed did.OutOfMemory old n t met t' c le h = gain_is OutOfMemory 1 old _ met t' h.0 h.1 tt

  attends_by : (b : BufferedThresholdConfig) (t : Turn S) (met : Met) (t' : Turn S) → t.entry.threshold ≡ b → t.entry.marked ≡ false → AttendsBy m b t met t' → Gains met 1 (turn_work m t) (turn_work m t')
  attends_by (Desired k) t met t' c n h =
      let units = w.threshold_units t.association h.between t.entry.id k h.asks.result h.asks.called in
      handed h.answer (turn_work m t) k (record t { association = h.between }) met t' c (omega (arith, units)) h.then
  attends_by Unconfigured t met t' c n h = may_read t met t' n h
  attends_by (Configured k) t met t' c n h = may_read t met t' n h

  attends_if : (b there : Bool) (t : Turn S) (met : Met) (t' : Turn S) → t.entry.marked ≡ b → 3 ≤ state_credit t.entry.state t.entry.config → AttendsIf m b there t met t' → Gains met 1 (turn_work m t) (turn_work m t')
  attends_if true there t met t' n c h = ends_gain met 1 1 (turn_work m t) (turn_work m t) _ (omega arith) (closes 1 t met t' (omega (arith, c)) h)
  attends_if false false t met t' n c h = marks 1 t met t' (omega arith) n h
  attends_if false true t met t' n c h = attends_by t.entry.threshold t met t' refl n h

  visits_in : (st : StreamEntryState) (now : ℕ) (t : Turn S) (met : Met) (t' : Turn S) → t.entry.state ≡ st → VisitsIn m st now t met t' → Gains met 1 (turn_work m t) (turn_work m t')
  visits_in AwaitOpen now t met t' c h = gains_from met 2 1 _ _ _ (omega arith) (omega arith) (opens now t met t' c h)
  visits_in AwaitConfig now t met t' c h = attends_if t.entry.marked _ t met t' refl (omega (arith, state_credit_at t AwaitConfig c)) h
  visits_in AwaitDcepAck now t met t' c h = attends_if t.entry.marked _ t met t' refl (omega (arith, state_credit_at t AwaitDcepAck c)) h
  visits_in Open now t met t' c h = attends_if t.entry.marked _ t met t' refl (omega (arith, state_credit_at t Open c)) h
  visits_in Closed now t met t' c h = gain_is Nothing 1 (turn_work m t) t met t' h.0 h.1 (omega arith)

  -- each visit that meets something takes work away
  pub visits_gain : (now : ℕ) (t : Turn S) (met : Met) (t' : Turn S) → Visits m now t met t' → Gains met 1 (turn_work m t) (turn_work m t')
  visits_gain now t met t' h = visits_in t.entry.state now t met t' refl h

-- An entry of a stream of which data was told in a generation: as long as it waits for its config, the other end did not close the generation,
-- or its close is to be reported; and one that waits for an acknowledgement keeps the generation. An entry that is marked, or open, may do
-- anything but be told to be open.
use Rattle.std.proofs.Common.{◌≡◌, ◌∙◌, ◌⊎◌, inl, inr, ℕ, Bool, true, false, true≢false, List, [], Option, Some, refl, sym, ap, subst}
use Rattle.rtc_parts.specs.declared.ppi.Ppi.{Ppi}
use Rattle.rtc_parts.specs.declared.ppi.Ppi.TheVariants as ppi
use Rattle.rtc_parts.specs.AssociationLaws.{AssociationLaws}
use Rattle.rtc_parts.specs.AssociationMeaning.{AssociationMeaning}
use Rattle.rtc_sctp_entries.specs.declared.asked.Asked.{Asked}
use Rattle.rtc_sctp_entries.specs.declared.asked.Asked.TheVariants as did
use Rattle.rtc_sctp_entries.specs.declared.heard.Heard.{Heard}
use Rattle.rtc_sctp_entries.specs.declared.heard.Heard.TheVariants as heard
use Rattle.rtc_sctp_entries.specs.declared.read_message.ReadMessage.{ReadMessage}
use Rattle.rtc_sctp_entries.specs.declared.read_message.ReadMessage.TheVariants as read
use Rattle.rtc_sctp_entries.specs.declared.buffered_threshold_config.BufferedThresholdConfig.{BufferedThresholdConfig}
use Rattle.rtc_sctp_entries.specs.declared.buffered_threshold_config.BufferedThresholdConfig.TheVariants.{Unconfigured, Desired, Configured}
use Rattle.rtc_sctp_entries.specs.declared.stream_entry_state.StreamEntryState.{StreamEntryState}
use Rattle.rtc_sctp_entries.specs.declared.stream_entry_state.StreamEntryState.TheVariants.{AwaitOpen, AwaitConfig, AwaitDcepAck, Open, Closed}
use Rattle.rtc_sctp_entries.specs.declared.stream_entry.StreamEntry.{StreamEntry}
use Rattle.rtc_sctp_entries.specs.declared.sctp_event.SctpEvent.TheVariants as event
use Rattle.rtc_sctp_entries.specs.declared.met.Met.{Met}
use Rattle.rtc_sctp_entries.specs.declared.met.Met.TheVariants.{Nothing, Again, Output, OutOfMemory}
use Rattle.rtc_sctp_entries.specs.Entries.{marked_entry}
use Rattle.rtc_sctp_entries.specs.Visits.{Turn, Marks, Starves, TakesAck, ClosedBy, Closes, NoRoom, Ended, AcknowledgedBy, Acknowledges, TakenUpBy, TakesUp, TakenAs, TakesDcep, TakesStreamMessage, ReadBy, MayRead, IsRead, NothingUnread, HandedBy, AttendsBy, AttendsIf, is_entry_there, VisitsIn, Visits}
use Rattle.rtc_sctp_laws.specs.GenerationLaws.{GenerationLaws}
use Rattle.rtc_sctp_laws.specs.StreamActs.{AssociationDid}
use Rattle.rtc_sctp_laws.specs.StreamMessages.{StreamMessage}
use Rattle.rtc_sctp_laws.specs.StreamRuns.{is_past_opening}
use Rattle.rtc_sctp_laws.proofs.ActLemmas.{ended_did, read_did, reliability_did, threshold_did, wrote_did}
use Rattle.rtc_sctp_laws.proofs.KeptUses.{did_keeps}
use Rattle.rtc_run_laws.proofs.CompletingVisits.{TellsClose}
use Rattle.rtc_run_laws.proofs.UnendedStreams.{IsUnended, unended_did}

module _ {S : Type 0} (m : AssociationMeaning S) (g : ℕ) where
  -- by the state of the entry of a stream
  abbrev pub SaysIn : StreamEntryState → (marked : Bool) → (own : Option ℕ) → (stream : ℕ) → S → Type 0
  SaysIn AwaitOpen marked own n a = ⊥
  SaysIn AwaitConfig true own n a = Unit {0}
  SaysIn AwaitConfig false own n a = IsUnended m n g a
  SaysIn AwaitDcepAck true own n a = Unit {0}
  SaysIn AwaitDcepAck false own n a = own ≡ Some g
  SaysIn Open marked own n a = Unit {0}
  SaysIn Closed marked own n a = ⊥

  abbrev pub Says : (stream : ℕ) → S → StreamEntry → Type 0
  Says n a e = SaysIn e.state e.marked e.generation n a

  -- one that waits for its config has the generation now
  abbrev pub IsNow : (stream : ℕ) → S → StreamEntry → Type 0
  IsNow n a e = e.state ≡ AwaitConfig → e.marked ≡ false → m.generation a n ≡ g

  pub says_in_marked : (st : StreamEntryState) (own : Option ℕ) (n : ℕ) (a : S) → is_past_opening st ≡ true → SaysIn st true own n a
  says_in_marked AwaitOpen own n a h = absurd (true≢false (sym h))
  says_in_marked AwaitConfig own n a h = tt
  says_in_marked AwaitDcepAck own n a h = tt
  says_in_marked Open own n a h = tt
  says_in_marked Closed own n a h = absurd (true≢false (sym h))

  says_in_past : (st : StreamEntryState) (marked : Bool) (own : Option ℕ) (n : ℕ) (a : S) → SaysIn st marked own n a → is_past_opening st ≡ true
  says_in_past AwaitOpen marked own n a h = absurd h
  says_in_past AwaitConfig marked own n a h = refl
  says_in_past AwaitDcepAck marked own n a h = refl
  says_in_past Open marked own n a h = refl
  says_in_past Closed marked own n a h = absurd h

  pub says_past : (n : ℕ) (a : S) (e : StreamEntry) → Says n a e → is_past_opening e.state ≡ true
  says_past n a e h = says_in_past e.state e.marked e.generation n a h

  -- a marked one
  pub says_marked : (n : ℕ) (a b : S) (e : StreamEntry) → Says n a e → Says n b (marked_entry e)
  says_marked n a b e h = says_in_marked e.state e.generation n b (says_past n a e h)

  pub says_in_on : (st : StreamEntryState) (marked : Bool) (own : Option ℕ) (n : ℕ) (a b : S) → (IsUnended m n g a → IsUnended m n g b)
      → SaysIn st marked own n a → SaysIn st marked own n b
  says_in_on AwaitOpen marked own n a b f h = h
  says_in_on AwaitConfig true own n a b f h = h
  says_in_on AwaitConfig false own n a b f h = f h
  says_in_on AwaitDcepAck true own n a b f h = h
  says_in_on AwaitDcepAck false own n a b f h = h
  says_in_on Open marked own n a b f h = h
  says_in_on Closed marked own n a b f h = h

  pub says_on : (n : ℕ) (a b : S) (e : StreamEntry) → (IsUnended m n g a → IsUnended m n g b) → Says n a e → Says n b e
  says_on n a b e f h = says_in_on e.state e.marked e.generation n a b f h

  own_in : (st : StreamEntryState) (marked : Bool) (own : Option ℕ) (n : ℕ) (a : S) → st ≡ AwaitDcepAck → marked ≡ false → SaysIn st marked own n a
      → own ≡ Some g
  own_in AwaitDcepAck false own n a is free h = h
  own_in AwaitDcepAck true own n a is free h = absurd (true≢false free)
  own_in AwaitOpen marked own n a is free h = absurd h
  own_in AwaitConfig marked own n a is free h = let clash : AwaitConfig ≡ AwaitDcepAck = is in cc
  own_in Open marked own n a is free h = let clash : Open ≡ AwaitDcepAck = is in cc
  own_in Closed marked own n a is free h = absurd h

  -- what a visit of the entry of a stream leaves: its close is told, or the entry says the same; and if the stream is told to be open, the
  -- entry keeps the generation
  pub record Goes (n : ℕ) (met : Met) (t' : Turn S) : Type 0 where
    pub left : TellsClose n met ⊎ Says n t'.association t'.entry
    pub opens : (label : List ℕ) → met ≡ Output (event.Open n label) → t'.entry.generation ≡ Some g

  -- what is met that tells no stream to be open
  abbrev TellsNoOpen : Met → Type 0
  TellsNoOpen met = (id : ℕ) (label : List ℕ) → met ≡ Output (event.Open id label) → ⊥

  nothing_open : TellsNoOpen Nothing
  nothing_open id label h = cc

  again_open : TellsNoOpen Again
  again_open id label h = cc

  memory_open : TellsNoOpen OutOfMemory
  memory_open id label h = cc

  data_open : (stream : ℕ) (binary : Bool) (bytes : List ℕ) → TellsNoOpen (Output (event.Data stream binary bytes))
  data_open stream binary bytes id label h = cc

  close_open : (stream : ℕ) (pending : Bool) → TellsNoOpen (Output (event.Close stream pending))
  close_open stream pending id label h = cc

  stays : (n : ℕ) (r : Met) (u : Turn S) (met : Met) (t' : Turn S) → met ≡ r → t' ≡ u → TellsNoOpen r → Says n u.association u.entry → Goes n met t'
  stays n r u met t' is same none says = record {
    left = inr (subst (λ (x : Turn S). Says n x.association x.entry) (sym same) says);
    opens = λ label e. absurd (none n label (sym is ∙ e));
  }

  starves : (t : Turn S) (met : Met) (t' : Turn S) → Says t.entry.id t.association t.entry → Starves t met t' → Goes t.entry.id met t'
  starves t met t' says h = stays t.entry.id OutOfMemory t met t' h.0 h.1 memory_open says

  marks : (t : Turn S) (met : Met) (t' : Turn S) → Says t.entry.id t.association t.entry → Marks t met t' → Goes t.entry.id met t'
  marks t met t' says h =
      stays t.entry.id Again (record t { entry = marked_entry t.entry }) met t' h.0 h.1 again_open
      (says_marked t.entry.id t.association t.association t.entry says)

  module _ (w : AssociationLaws m) (v : GenerationLaws m) where
    says_did : (n : ℕ) (e : StreamEntry) (ins outs : List (List ℕ)) (wrote heard : List StreamMessage) (a b : S)
        → AssociationDid m ins outs [] wrote heard a b → Says n a e → Says n b e
    says_did n e ins outs wrote heard a b d h = says_on n a b e (unended_did m w n g ins outs wrote heard a b d) h

    now_did : (n : ℕ) (outs : List (List ℕ)) (wrote heard : List StreamMessage) (a b : S) → AssociationDid m [] outs [] wrote heard a b
        → m.generation a n ≡ g → m.generation b n ≡ g
    now_did n outs wrote heard a b d h = (did_keeps m v n outs [] wrote heard a b d).generation_is ∙ h

    -- ---- an entry that is closed

    closed_by : (answer : Asked) (t : Turn S) (met : Met) (t' : Turn S) → Says t.entry.id t.association t.entry → ClosedBy m answer t met t'
        → Goes t.entry.id met t'
    closed_by did.Done t met t' says h =
        record { left = inl (_, h.0); opens = λ label e. absurd (close_open _ _ t.entry.id label (sym h.0 ∙ e)) }
    closed_by did.Refused t met t' says h =
        record { left = inl (_, h.0); opens = λ label e. absurd (close_open _ _ t.entry.id label (sym h.0 ∙ e)) }
    closed_by did.OutOfMemory t met t' says h = starves t met t' says h

    closes : (t : Turn S) (met : Met) (t' : Turn S) → Says t.entry.id t.association t.entry → Closes m t met t' → Goes t.entry.id met t'
    closes t met t' says (NoRoom h) = starves t met t' says h
    closes t met t' says (Ended answer q asks h) =
        closed_by answer (record t { association = q }) met t'
        (says_did t.entry.id t.entry [] [] [] [] t.association q (ended_did m t.association q t.entry.id asks.result asks.called) says) h

    -- ---- an open message is taken up

    acknowledged_by : (answer : Asked) (label : List ℕ) (t : Turn S) (met : Met) (t' : Turn S) → Says t.entry.id t.association t.entry
        → m.generation t.association t.entry.id ≡ g → AcknowledgedBy m answer label t met t' → Goes t.entry.id met t'
    acknowledged_by did.Done label t met t' says now h = record {
      left = inr (subst (λ (x : Turn S). Says t.entry.id x.association x.entry) (sym h.1) tt);
      opens = λ l e. ap (λ (x : Turn S). x.entry.generation) h.1 ∙ ap (λ (k : ℕ). Some k) now;
    }
    acknowledged_by did.Refused label t met t' says now h = closes t met t' says h
    acknowledged_by did.OutOfMemory label t met t' says now h = starves t met t' says h

    acknowledges : (label : List ℕ) (t : Turn S) (met : Met) (t' : Turn S) → Says t.entry.id t.association t.entry
        → m.generation t.association t.entry.id ≡ g → Acknowledges m label t met t' → Goes t.entry.id met t'
    acknowledges label t met t' says now h =
        let wrote = wrote_did m t.association h.between t.entry.id ppi.Dcep _ h.asks.result h.asks.called in
        acknowledged_by h.answer label (record t { association = h.between }) met t'
        (says_did t.entry.id t.entry [] [] _ [] t.association h.between wrote says) (now_did t.entry.id [] _ [] t.association h.between wrote now) h.then

    taken_up_by : (answer : Asked) (label : List ℕ) (t : Turn S) (met : Met) (t' : Turn S) → Says t.entry.id t.association t.entry
        → m.generation t.association t.entry.id ≡ g → TakenUpBy m answer label t met t' → Goes t.entry.id met t'
    taken_up_by did.Done label t met t' says now h = acknowledges label t met t' says now h
    taken_up_by did.Refused label t met t' says now h = marks t met t' says h
    taken_up_by did.OutOfMemory label t met t' says now h = starves t met t' says h

    takes_up : (label : List ℕ) (t : Turn S) (met : Met) (t' : Turn S) → Says t.entry.id t.association t.entry
        → m.generation t.association t.entry.id ≡ g → TakesUp m label t met t' → Goes t.entry.id met t'
    takes_up label t met t' says now h =
        let set = reliability_did m t.association h.between t.entry.id _ _ _ h.asks.result h.asks.called in
        taken_up_by h.answer label (record t { association = h.between }) met t'
        (says_did t.entry.id t.entry [] [] [] [] t.association h.between set says) (now_did t.entry.id [] [] [] t.association h.between set now) h.then

    taken_as : (message : ReadMessage) (t : Turn S) (met : Met) (t' : Turn S) → Says t.entry.id t.association t.entry
        → m.generation t.association t.entry.id ≡ g → TakenAs m message t met t' → Goes t.entry.id met t'
    taken_as (read.Open label config) t met t' says now h = takes_up label _ met t' says now h
    taken_as read.Malformed t met t' says now h = marks t met t' says h
    taken_as read.OutOfMemory t met t' says now h = starves t met t' says h

    takes_ack : (bytes : List ℕ) (t : Turn S) (met : Met) (t' : Turn S) → Says t.entry.id t.association t.entry → t.entry.generation ≡ Some g
        → TakesAck bytes t.entry met t'.entry → t' ≡ record t { entry = t'.entry } → Goes t.entry.id met t'
    takes_ack bytes t Nothing t' says own h is = absurd h
    takes_ack bytes t Again t' says own h is = record {
      left =
          inr
          (subst (λ (e : StreamEntry). Says t.entry.id t'.association e) (sym h.1)
          (says_marked t.entry.id t.association t'.association t.entry says));
      opens = λ label e. absurd (again_open t.entry.id label e);
    }
    takes_ack bytes t (Output told) t' says own h is = record {
      left = inr (subst (λ (e : StreamEntry). Says t.entry.id t'.association e) (sym h.1.1) tt);
      opens = λ label e. ap (λ (x : StreamEntry). x.generation) h.1.1 ∙ own;
    }
    takes_ack bytes t OutOfMemory t' says own h is = record {
      left =
          inr
          (subst (λ (e : StreamEntry). Says t.entry.id t'.association e) (sym h.1)
          (subst (λ (a : S). Says t.entry.id a t.entry) (sym (ap (λ (x : Turn S). x.association) is)) says));
      opens = λ label e. absurd (memory_open t.entry.id label e);
    }

    -- ---- messages

    takes_dcep : (st : StreamEntryState) (bytes : List ℕ) (t : Turn S) (met : Met) (t' : Turn S) → t.entry.state ≡ st → t.entry.marked ≡ false
        → Says t.entry.id t.association t.entry → IsNow t.entry.id t.association t.entry → TakesDcep m st bytes t met t' → Goes t.entry.id met t'
    takes_dcep AwaitConfig bytes t met t' is free says now h = taken_as h.message t met t' says (now is free) h.then
    takes_dcep AwaitDcepAck bytes t met t' is free says now h =
        takes_ack bytes t met t' says (own_in t.entry.state t.entry.marked t.entry.generation t.entry.id t.association is free says) h.0 h.1
    takes_dcep AwaitOpen bytes t met t' is free says now h = marks t met t' says h
    takes_dcep Open bytes t met t' is free says now h = marks t met t' says h
    takes_dcep Closed bytes t met t' is free says now h = marks t met t' says h

    gives : (binary : Bool) (bytes : List ℕ) (t : Turn S) (met : Met) (t' : Turn S) → Says t.entry.id t.association t.entry
        → met ≡ Output (event.Data t.entry.id binary bytes) → t' ≡ t → Goes t.entry.id met t'
    gives binary bytes t met t' says is same =
        stays t.entry.id (Output (event.Data t.entry.id binary bytes)) t met t' is same (data_open t.entry.id binary bytes) says

    message : (i : Ppi) (bytes : List ℕ) (t : Turn S) (met : Met) (t' : Turn S) → t.entry.marked ≡ false → Says t.entry.id t.association t.entry
        → IsNow t.entry.id t.association t.entry → TakesStreamMessage m i bytes t met t' → Goes t.entry.id met t'
    message ppi.Dcep bytes t met t' free says now h = takes_dcep t.entry.state bytes t met t' refl free says now h
    message ppi.Text bytes t met t' free says now h = gives false bytes t met t' says h.0 h.1
    message ppi.Binary bytes t met t' free says now h = gives true bytes t met t' says h.0 h.1
    message ppi.EmptyText bytes t met t' free says now h = gives false [] t met t' says h.0 h.1
    message ppi.EmptyBinary bytes t met t' free says now h = gives true [] t met t' says h.0 h.1
    message (ppi.Other n) bytes t met t' free says now h = marks t met t' says h

    read_by : (answer : Heard) (t : Turn S) (met : Met) (t' : Turn S) → t.entry.marked ≡ false → Says t.entry.id t.association t.entry
        → IsNow t.entry.id t.association t.entry → ReadBy m answer t met t' → Goes t.entry.id met t'
    read_by heard.Nothing t met t' free says now h = stays t.entry.id Nothing t met t' h.0 h.1 nothing_open says
    read_by (heard.Message i bytes) t met t' free says now h = message i bytes t met t' free says now h
    read_by heard.Refused t met t' free says now h = marks t met t' says h
    read_by heard.OutOfMemory t met t' free says now h = starves t met t' says h

    may_read : (t : Turn S) (met : Met) (t' : Turn S) → t.entry.marked ≡ false → Says t.entry.id t.association t.entry
        → IsNow t.entry.id t.association t.entry → MayRead m t met t' → Goes t.entry.id met t'
    may_read t met t' free says now (IsRead h) =
        let one = read_did m w t.association h.between t.entry.id h.asks.result h.asks.called in
        read_by h.answer (record t { association = h.between }) met t' free
        (says_did t.entry.id t.entry [] [] [] _ t.association h.between one says)
        (λ is unmarked. now_did t.entry.id [] [] _ t.association h.between one (now is unmarked)) h.then
    may_read t met t' free says now (NothingUnread unread e f) = stays t.entry.id Nothing t met t' e f nothing_open says

    handed : (answer : Asked) (n : ℕ) (t : Turn S) (met : Met) (t' : Turn S) → Says t.entry.id t.association t.entry → HandedBy m answer n t met t'
        → Goes t.entry.id met t'
    handed did.Done n t met t' says h = stays t.entry.id Again _ met t' h.0 h.1 again_open says
    handed did.Refused n t met t' says h = stays t.entry.id Again _ met t' h.0 h.1 again_open says
    handed did.OutOfMemory n t met t' says h = starves t met t' says h

    attends_by : (b : BufferedThresholdConfig) (t : Turn S) (met : Met) (t' : Turn S) → t.entry.marked ≡ false → Says t.entry.id t.association t.entry
        → IsNow t.entry.id t.association t.entry → AttendsBy m b t met t' → Goes t.entry.id met t'
    attends_by (Desired n) t met t' free says now h =
        handed h.answer n (record t { association = h.between }) met t'
        (says_did t.entry.id t.entry [] [] [] [] t.association h.between
        (threshold_did m t.association h.between t.entry.id n h.asks.result h.asks.called) says) h.then
    attends_by Unconfigured t met t' free says now h = may_read t met t' free says now h
    attends_by (Configured n) t met t' free says now h = may_read t met t' free says now h

    attends_if : (marked there : Bool) (t : Turn S) (met : Met) (t' : Turn S) → t.entry.marked ≡ marked → Says t.entry.id t.association t.entry
        → IsNow t.entry.id t.association t.entry → AttendsIf m marked there t met t' → Goes t.entry.id met t'
    attends_if true there t met t' is says now h = closes t met t' says h
    attends_if false false t met t' is says now h = marks t met t' says h
    attends_if false true t met t' is says now h = attends_by t.entry.threshold t met t' is says now h

    visits_in : (st : StreamEntryState) (now : ℕ) (t : Turn S) (met : Met) (t' : Turn S) → t.entry.state ≡ st → Says t.entry.id t.association t.entry
        → IsNow t.entry.id t.association t.entry → VisitsIn m st now t met t' → Goes t.entry.id met t'
    visits_in AwaitOpen now t met t' is says own h =
        absurd (subst (λ (st : StreamEntryState). SaysIn st t.entry.marked t.entry.generation t.entry.id t.association) is says)
    visits_in AwaitConfig now t met t' is says own h =
        attends_if t.entry.marked (is_entry_there m t.association t.entry) t met t' refl says own h
    visits_in AwaitDcepAck now t met t' is says own h =
        attends_if t.entry.marked (is_entry_there m t.association t.entry) t met t' refl says own h
    visits_in Open now t met t' is says own h =
        attends_if t.entry.marked (is_entry_there m t.association t.entry) t met t' refl says own h
    visits_in Closed now t met t' is says own h =
        absurd (subst (λ (st : StreamEntryState). SaysIn st t.entry.marked t.entry.generation t.entry.id t.association) is says)

    pub visit_says : (now : ℕ) (t : Turn S) (met : Met) (t' : Turn S) → Says t.entry.id t.association t.entry
        → IsNow t.entry.id t.association t.entry → Visits m now t met t' → Goes t.entry.id met t'
    visit_says now t met t' says own h = visits_in t.entry.state now t met t' refl says own h

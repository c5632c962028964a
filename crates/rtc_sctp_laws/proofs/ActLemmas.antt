-- Acts of an association join, and each of its calls is one act or none.
use Rattle.std.proofs.Common.{◌≡◌, ℕ, Bool, true, false, List, [], ◌∷◌, ◌++◌, map, Option, Some, None, Result, Ok, Err, refl, sym, ap, subst, ◌∙◌}
use Rattle.std.proofs.lemmas.List.{map-append}
use Rattle.rtc_wire.specs.declared.reliability_type.ReliabilityType.{ReliabilityType}
use Rattle.std.specs.declared.alloc.AllocError.{AllocError}
use Rattle.rtc_parts.specs.declared.assoc_error.AssocError.{AssocError}
use Rattle.rtc_parts.specs.declared.assoc_event.AssocEvent.{AssocEvent}
use Rattle.rtc_parts.specs.declared.ppi.Ppi.{Ppi}
use Rattle.rtc_parts.specs.declared.ppi.Ppi.TheVariants as ppi
use Rattle.rtc_parts.specs.Ppi.{ppi_number}
use Rattle.rtc_parts.specs.AssociationMeaning.{AssociationMeaning}
use Rattle.rtc_parts.specs.AssociationLaws.{AssociationLaws}
use Rattle.rtc_parts.specs.AssociationActs.{AssociationAct, Started, Opened, Wrote, Ended, Given, Taken, Read, Told, Stirred, Stirs, Acted, moved-append}
use Rattle.rtc_parts.specs.AssociationActs.{ByConnect, ByAccept, BySnap, ConnectRefused, AcceptRefused, SnapRefused, OpenRefused, WriteRefused, ReadRefused, EndRefused, ThresholdSet, ReliabilitySet}
use Rattle.rtc_parts.specs.AssociationWords.{given, taken, told}
use Rattle.rtc_parts.proofs.AssociationLemmas.{given-append, taken-append, told-append}
use Rattle.rtc_parts.specs.Why.{Timed, Shut, Other}
use Rattle.rtc_sctp_entries.specs.Part.{StartedAs}
use Rattle.rtc_sctp_laws.specs.StreamMessages.{StreamMessage, stream_message, write_act, read_act, writes_of, reads_of, are_dcep, HaveNamedPpis, NamesReadings}
use Rattle.rtc_sctp_laws.specs.StreamActs.{AssociationDid}

writes_of-append : (xs ys : List AssociationAct) → writes_of (xs ++ ys) ≡ writes_of xs ++ writes_of ys
writes_of-append [] ys = refl
writes_of-append (Wrote s g i b ∷ xs) ys = ap (λ l. Wrote s g i b ∷ l) (writes_of-append xs ys)
writes_of-append (_ ∷ xs) ys = writes_of-append xs ys

reads_of-append : (xs ys : List AssociationAct) → reads_of (xs ++ ys) ≡ reads_of xs ++ reads_of ys
reads_of-append [] ys = refl
reads_of-append (Read s g i b ∷ xs) ys = ap (λ l. Read s g i b ∷ l) (reads_of-append xs ys)
reads_of-append (_ ∷ xs) ys = reads_of-append xs ys

pub named-append : (xs ys : List StreamMessage) → HaveNamedPpis xs → HaveNamedPpis ys → HaveNamedPpis (xs ++ ys)
named-append [] ys h k = k
named-append (x ∷ xs) ys h k = (h.0, named-append xs ys h.1 k)

-- the message of a writing that the association took
abbrev pub message_taken : (id g : ℕ) → Ppi → List ℕ → Result ℕ AssocError → List StreamMessage
message_taken id g i bytes (Ok n) = stream_message id g i bytes ∷ []
message_taken id g i bytes (Err e) = []

-- the message of a reading
abbrev pub message_read : (id g : ℕ) → Result (Option (Ppi × List ℕ)) AssocError → List StreamMessage
message_read id g (Ok None) = []
message_read id g (Ok (Some x)) = stream_message id g x.0 x.1 ∷ []
message_read id g (Err e) = []

-- the packet of a poll
abbrev pub packet_polled : Option (List ℕ) → List (List ℕ)
packet_polled None = []
packet_polled (Some packet) = packet ∷ []

pub dcep_taken : (id g : ℕ) (bytes : List ℕ) (r : Result ℕ AssocError) → are_dcep (message_taken id g ppi.Dcep bytes r) ≡ true
dcep_taken id g bytes (Ok n) = refl
dcep_taken id g bytes (Err e) = refl

module _ {S : Type 0} (m : AssociationMeaning S) where
  pub did_none : (a : S) → AssociationDid m [] [] [] [] [] a a
  did_none a = record { acts = []; went = refl; given_is = refl; taken_is = refl; told_is = refl; wrote_is = refl; heard_is = refl; named = λ n. tt }

  pub did_join : (ins ins' outs outs' : List (List ℕ)) (tells tells' : List AssocEvent) (wrote wrote' heard heard' : List StreamMessage) (a b c : S)
      → AssociationDid m ins outs tells wrote heard a b → AssociationDid m ins' outs' tells' wrote' heard' b c
      → AssociationDid m (ins ++ ins') (outs ++ outs') (tells ++ tells') (wrote ++ wrote') (heard ++ heard') a c
  did_join ins ins' outs outs' tells tells' wrote wrote' heard heard' a b c d e = record {
    acts = d.acts ++ e.acts;
    went = moved-append m a b c d.acts e.acts d.went e.went;
    given_is = given-append d.acts e.acts ∙ ap (λ l. l ++ given e.acts) d.given_is ∙ ap (λ l. ins ++ l) e.given_is;
    taken_is = taken-append d.acts e.acts ∙ ap (λ l. l ++ taken e.acts) d.taken_is ∙ ap (λ l. outs ++ l) e.taken_is;
    told_is = told-append d.acts e.acts ∙ ap (λ l. l ++ told e.acts) d.told_is ∙ ap (λ l. tells ++ l) e.told_is;
    wrote_is = writes_of-append d.acts e.acts ∙ ap (λ l. l ++ writes_of e.acts) d.wrote_is ∙ ap (λ l. map write_act wrote ++ l) e.wrote_is ∙ sym (map-append write_act wrote wrote');
    heard_is = reads_of-append d.acts e.acts ∙ ap (λ l. l ++ reads_of e.acts) d.heard_is ∙ ap (λ l. map read_act heard ++ l) e.heard_is ∙ sym (map-append read_act heard heard');
    named = λ n. named-append heard heard' (d.named n) (e.named n);
  }

  -- one act
  did_one : (act : AssociationAct) (ins outs : List (List ℕ)) (tells : List AssocEvent) (wrote heard : List StreamMessage) (a b : S)
      → given (act ∷ []) ≡ ins → taken (act ∷ []) ≡ outs → told (act ∷ []) ≡ tells → writes_of (act ∷ []) ≡ map write_act wrote
      → reads_of (act ∷ []) ≡ map read_act heard → (NamesReadings m → HaveNamedPpis heard) → Acted m a act b → AssociationDid m ins outs tells wrote heard a b
  did_one act ins outs tells wrote heard a b gi ta to wr he named h =
      record { acts = act ∷ []; went = (b, (h, refl)); given_is = gi; taken_is = ta; told_is = to; wrote_is = wr; heard_is = he; named = named }

  -- a call with which nothing was given, taken, written, read or told
  stirred_did : (a b : S) → Stirs m a b → AssociationDid m [] [] [] [] [] a b
  stirred_did a b h = did_one (Stirred Other) [] [] [] [] [] a b refl refl refl refl refl (λ n. tt) h

  pub opened_did : (a b : S) (id : ℕ) (r : Result (Unit {0}) AssocError) → m.opened a id r b → AssociationDid m [] [] [] [] [] a b
  opened_did a b id (Ok x) h = did_one (Opened id (m.generation a id)) [] [] [] [] [] a b refl refl refl refl refl (λ n. tt) (h, refl)
  opened_did a b id (Err e) h = stirred_did a b (OpenRefused id e h)

  pub ended_did : (a b : S) (id : ℕ) (r : Result (Unit {0}) AssocError) → m.ended a id r b → AssociationDid m [] [] [] [] [] a b
  ended_did a b id (Ok x) h = did_one (Ended id (m.generation a id)) [] [] [] [] [] a b refl refl refl refl refl (λ n. tt) (h, refl)
  ended_did a b id (Err e) h = stirred_did a b (EndRefused id e h)

  pub threshold_did : (a b : S) (id n : ℕ) (r : Result (Unit {0}) AssocError) → m.threshold_set a id n r b → AssociationDid m [] [] [] [] [] a b
  threshold_did a b id n r h = stirred_did a b (ThresholdSet id n r h)

  pub reliability_did : (a b : S) (id : ℕ) (u : Bool) (t : ReliabilityType) (n : ℕ) (r : Result (Unit {0}) AssocError) → m.reliability_set a id u t n r b → AssociationDid m [] [] [] [] [] a b
  reliability_did a b id u t n r h = stirred_did a b (ReliabilitySet id u t n r h)

  pub wrote_did : (a b : S) (id : ℕ) (i : Ppi) (bytes : List ℕ) (r : Result ℕ AssocError) → m.wrote a id i bytes r b → AssociationDid m [] [] [] (message_taken id (m.generation a id) i bytes r) [] a b
  wrote_did a b id i bytes (Ok n) h =
      did_one (Wrote id (m.generation a id) (ppi_number i) bytes) [] [] [] (stream_message id (m.generation a id) i bytes ∷ []) [] a b refl refl refl refl refl (λ n. tt) (i, (n, (h, refl, refl)))
  wrote_did a b id i bytes (Err e) h = stirred_did a b (WriteRefused id i bytes e h)

  pub shut_did : (a b : S) (r : Result (Unit {0}) AssocError) → m.shut a r b → AssociationDid m [] [] [] [] [] a b
  shut_did a b r h = did_one (Stirred Shut) [] [] [] [] [] a b refl refl refl refl refl (λ n. tt) (r, h)

  pub timed_did : (a b : S) (now : ℕ) (r : Result (Unit {0}) AllocError) → m.timed a now r b → AssociationDid m [] [] [] [] [] a b
  timed_did a b now r h = did_one (Stirred (Timed now)) [] [] [] [] [] a b refl refl refl refl refl (λ n. tt) (r, h)

  pub given_did : (a b : S) (now : ℕ) (bytes : List ℕ) (r : Result (Unit {0}) AllocError) → m.given a now bytes r b → AssociationDid m (bytes ∷ []) [] [] [] [] a b
  given_did a b now bytes r h = did_one (Given bytes) (bytes ∷ []) [] [] [] [] a b refl refl refl refl refl (λ n. tt) (now, (r, h))

  pub started_did : (client : Bool) (a b : S) (now max : ℕ) (r : Result (Unit {0}) AssocError) → m.started a ≡ false → StartedAs m client a now max r b → AssociationDid m [] [] [] [] [] a b
  started_did true a b now max (Ok x) s h = did_one Started [] [] [] [] [] a b refl refl refl refl refl (λ n. tt) (s, ByConnect now max h)
  started_did true a b now max (Err e) s h = stirred_did a b (ConnectRefused now max e s h)
  started_did false a b now max (Ok x) s h = did_one Started [] [] [] [] [] a b refl refl refl refl refl (λ n. tt) (s, ByAccept now max h)
  started_did false a b now max (Err e) s h = stirred_did a b (AcceptRefused now max e s h)

  pub snapped_did : (a b : S) (now max : ℕ) (local remote : List ℕ) (r : Result (Unit {0}) AssocError) → m.started a ≡ false
      → m.connected_snap a now max local remote r b → AssociationDid m [] [] [] [] [] a b
  snapped_did a b now max l o (Ok x) s h = did_one Started [] [] [] [] [] a b refl refl refl refl refl (λ n. tt) (s, BySnap now max l o h)
  snapped_did a b now max l o (Err e) s h = stirred_did a b (SnapRefused now max l o e s h)

  -- what left the association as it was did nothing
  pub did_same : (a b : S) → b ≡ a → AssociationDid m [] [] [] [] [] a b
  did_same a b e = subst (λ (x : S). AssociationDid m [] [] [] [] [] a x) (sym e) (did_none a)

module _ {S : Type 0} (m : AssociationMeaning S) (w : AssociationLaws m) where
  pub read_did : (a b : S) (id : ℕ) (r : Result (Option (Ppi × List ℕ)) AssocError) → m.read a id r b → AssociationDid m [] [] [] [] (message_read id (m.generation a id) r) a b
  read_did a b id (Ok None) h = did_same m a b (w.read_none a b id h)
  read_did a b id (Ok (Some x)) h =
      did_one m (Read id (m.generation a id) (ppi_number x.0) x.1) [] [] [] [] (stream_message id (m.generation a id) x.0 x.1 ∷ []) a b refl refl refl refl refl (λ n. (n a b id x.0 x.1 h, tt)) (x.0, (h, refl, refl))
  read_did a b id (Err e) h = stirred_did m a b (ReadRefused id e h)

  pub gave_did : (a b : S) (o : Option (List ℕ)) → m.gave a o b → AssociationDid m [] (packet_polled o) [] [] [] a b
  gave_did a b None h = did_same m a b (w.packet_none a b h)
  gave_did a b (Some packet) h = did_one m (Taken packet) [] (packet ∷ []) [] [] [] a b refl refl refl refl refl (λ n. tt) h

  pub told_did : (a b : S) (e : AssocEvent) → m.polled a (Some e) b → AssociationDid m [] [] (e ∷ []) [] [] a b
  told_did a b e h = did_one m (Told e) [] [] (e ∷ []) [] [] a b refl refl refl refl refl (λ n. tt) h

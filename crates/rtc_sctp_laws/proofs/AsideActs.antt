-- What starts, shuts down and writes to streams does it by acts that open and read no stream, and by which no event is told.
use Rattle.std.proofs.Common.{◌≡◌, ◌∙◌, ◌++◌, ◌∷◌, ℕ, Bool, true, false, List, [], Option, Some, None, Result, Ok, Err, refl, ap}
use Rattle.rtc_parts.specs.declared.assoc_error.AssocError.{AssocError}
use Rattle.rtc_parts.specs.declared.ppi.Ppi.{Ppi}
use Rattle.rtc_parts.specs.Ppi.{ppi_number}
use Rattle.rtc_parts.specs.AssociationActs.{AssociationAct, Started, Wrote, Stirred, Acted, Moved, moved-append}
use Rattle.rtc_parts.specs.AssociationActs.{ByConnect, ByAccept, BySnap, ConnectRefused, AcceptRefused, SnapRefused, WriteRefused}
use Rattle.rtc_parts.specs.AssociationMeaning.{AssociationMeaning}
use Rattle.rtc_parts.specs.AssociationWords.{told}
use Rattle.rtc_parts.proofs.AssociationLemmas.{told-append}
use Rattle.rtc_parts.specs.Why.{Shut, Other}
use Rattle.rtc_sctp_entries.specs.declared.asked.Asked.{Asked}
use Rattle.rtc_sctp_entries.specs.declared.asked.Asked.TheVariants as did
use Rattle.rtc_sctp_entries.specs.Part.{StartedAs}
use Rattle.rtc_sctp_values.specs.declared.proto_error.ProtoError.TheVariants as proto
use Rattle.rtc_sctp_values.specs.declared.sctp_error.SctpError.{SctpError}
use Rattle.rtc_sctp_values.specs.declared.sctp_error.SctpError.TheVariants as sctp
use Rattle.rtc_sctp_values.specs.InitHalves.{InitHalves, half_bytes}
use Rattle.rtc_sctp.specs.Streams.{SctpStreams}
use Rattle.rtc_sctp.specs.Calls.{AsksInit, Inits, ShutBy, Shuts, WrittenIf, WritesStream, can_write, is_current, is_ended, is_nil, written_ppi}
use Rattle.rtc_sctp_laws.specs.GenerationLaws.{OpenAndReadNone, opens_or_reads}

pub aside-append : (xs ys : List AssociationAct) → OpenAndReadNone xs → OpenAndReadNone ys → OpenAndReadNone (xs ++ ys)
aside-append [] ys h k = k
aside-append (act ∷ xs) ys h k = (h.0, aside-append xs ys h.1 k)

module _ {S : Type 0} (m : AssociationMeaning S) where
  -- such acts took an association from a to b
  pub record AsideDid (a b : S) : Type 0 where
    pub acts : List AssociationAct
    pub went : Moved m a acts b
    pub untold : told acts ≡ []
    pub aside : OpenAndReadNone acts

  pub aside_none : (a b : S) → b ≡ a → AsideDid a b
  aside_none a b is = record { acts = []; went = is; untold = refl; aside = tt }

  pub aside_act : (act : AssociationAct) (a b : S) → Acted m a act b → told (act ∷ []) ≡ [] → opens_or_reads act ≡ false → AsideDid a b
  aside_act act a b h untold aside = record { acts = act ∷ []; went = (b, (h, refl)); untold = untold; aside = (aside, tt) }

  pub aside_on : (a b c : S) → AsideDid a b → AsideDid b c → AsideDid a c
  aside_on a b c h k = record {
    acts = h.acts ++ k.acts;
    went = moved-append m a b c h.acts k.acts h.went k.went;
    untold = told-append h.acts k.acts ∙ ap (λ l. l ++ told k.acts) h.untold ∙ k.untold;
    aside = aside-append h.acts k.acts h.aside k.aside;
  }

  -- a start
  started_aside : (client : Bool) (a b : S) (now max : ℕ) (r : Result (Unit {0}) AssocError) → m.started a ≡ false → StartedAs m client a now max r b → AsideDid a b
  started_aside true a b now max (Ok x) s h = aside_act Started a b (s, ByConnect now max h) refl refl
  started_aside true a b now max (Err e) s h = aside_act (Stirred Other) a b (ConnectRefused now max e s h) refl refl
  started_aside false a b now max (Ok x) s h = aside_act Started a b (s, ByAccept now max h) refl refl
  started_aside false a b now max (Err e) s h = aside_act (Stirred Other) a b (AcceptRefused now max e s h) refl refl

  snapped_aside : (a b : S) (now max : ℕ) (local remote : List ℕ) (r : Result (Unit {0}) AssocError) → m.started a ≡ false
      → m.connected_snap a now max local remote r b → AsideDid a b
  snapped_aside a b now max l o (Ok x) s h = aside_act Started a b (s, BySnap now max l o h) refl refl
  snapped_aside a b now max l o (Err e) s h = aside_act (Stirred Other) a b (SnapRefused now max l o e s h) refl refl

  asks_aside : (snap : Option InitHalves) (client : Bool) (now max : ℕ) (answer : Asked) (a b : S) → m.started a ≡ false
      → AsksInit m snap client a now max answer b → AsideDid a b
  asks_aside None client now max answer a b s k = started_aside client a b now max k.result s k.called
  asks_aside (Some halves) client now max answer a b s k =
      snapped_aside a b now max (half_bytes halves.local) (half_bytes halves.remote) k.1.result s k.1.called

  pub inits_aside : (client : Bool) (now max : ℕ) (snap : Option InitHalves) (p : SctpStreams S) (r : Result (Unit {0}) SctpError) (q : SctpStreams S)
      → Inits m client now max snap p r q → AsideDid p.association q.association
  inits_aside client now max snap p (Ok x) q h = asks_aside snap client now max did.Done p.association q.association h.0 h.1
  inits_aside client now max snap p (Err (sctp.Proto proto.Started)) q h = aside_none p.association q.association (ap (λ (x : SctpStreams S). x.association) h.1)
  inits_aside client now max snap p (Err (sctp.Proto proto.SnapHalf)) q h = aside_none p.association q.association (ap (λ (x : SctpStreams S). x.association) h.2)
  inits_aside client now max snap p (Err (sctp.Proto proto.Fault)) q h = asks_aside snap client now max did.Refused p.association q.association h.0 h.1
  inits_aside client now max snap p (Err sctp.Alloc) q h = asks_aside snap client now max did.OutOfMemory p.association q.association h.0 h.1
  inits_aside client now max snap p (Err e) q h = absurd h

  -- the end of an association
  shut_aside : (ended : Bool) (p : SctpStreams S) (r : Result (Unit {0}) SctpError) (q : SctpStreams S) → ShutBy m ended p r q
      → AsideDid p.association q.association
  shut_aside true p r q h = aside_none p.association q.association (ap (λ (x : SctpStreams S). x.association) h.1)
  shut_aside false p (Ok x) q h = aside_act (Stirred Shut) p.association q.association (h.0.result, h.0.called) refl refl
  shut_aside false p (Err (sctp.Proto proto.Fault)) q h = aside_act (Stirred Shut) p.association q.association (h.0.result, h.0.called) refl refl
  shut_aside false p (Err sctp.Alloc) q h = aside_act (Stirred Shut) p.association q.association (h.0.result, h.0.called) refl refl
  shut_aside false p (Err e) q h = absurd h

  pub shuts_aside : (p : SctpStreams S) (r : Result (Unit {0}) SctpError) (q : SctpStreams S) → Shuts m p r q → AsideDid p.association q.association
  shuts_aside p r q h = shut_aside (is_ended m p.association) p r q h

  -- a write
  wrote_aside : (id : ℕ) (i : Ppi) (bytes : List ℕ) (a b : S) (r : Result ℕ AssocError) → m.wrote a id i bytes r b → AsideDid a b
  wrote_aside id i bytes a b (Ok n) h =
      aside_act (Wrote id (m.generation a id) (ppi_number i) bytes) a b (i, (n, (h, refl, refl))) refl refl
  wrote_aside id i bytes a b (Err e) h = aside_act (Stirred Other) a b (WriteRefused id i bytes e h) refl refl

  written_aside : (can current : Bool) (id : ℕ) (binary : Bool) (bytes : List ℕ) (p : SctpStreams S) (r : Result ℕ SctpError) (q : SctpStreams S)
      → WrittenIf m can current id binary bytes p r q → AsideDid p.association q.association
  written_aside false current id binary bytes p r q h = aside_none p.association q.association (ap (λ (x : SctpStreams S). x.association) h.1)
  written_aside true false id binary bytes p r q h = aside_none p.association q.association (ap (λ (x : SctpStreams S). x.association) h.1)
  written_aside true true id binary bytes p r q h = wrote_aside id (written_ppi binary (is_nil bytes)) bytes p.association q.association h.0 h.1

  pub writes_aside : (id : ℕ) (binary : Bool) (bytes : List ℕ) (p : SctpStreams S) (r : Result ℕ SctpError) (q : SctpStreams S)
      → WritesStream m id binary bytes p r q → AsideDid p.association q.association
  writes_aside id binary bytes p r q h = written_aside (can_write m id p) (is_current m id p) id binary bytes p r q h

-- An entry whose opening is begun stays so by a visit, unless this tells that its stream is closed; and no visit changes whether a stream
-- was settled by other means than messages.
use Rattle.std.proofs.Common.{◌≡◌, ◌⊎◌, inl, inr, ℕ, Bool, true, false, List, Option, Some, None, refl, sym, subst, ◌∙◌}
use Rattle.rtc_parts.specs.AssociationMeaning.{AssociationMeaning}
use Rattle.rtc_sctp_entries.specs.declared.asked.Asked.{Asked}
use Rattle.rtc_sctp_entries.specs.declared.asked.Asked.TheVariants as did
use Rattle.rtc_sctp_entries.specs.declared.opening.Opening.{Opening}
use Rattle.rtc_sctp_entries.specs.declared.opening.Opening.TheVariants as opened
use Rattle.rtc_sctp_entries.specs.declared.stream_entry_state.StreamEntryState.{StreamEntryState}
use Rattle.rtc_sctp_entries.specs.declared.stream_entry_state.StreamEntryState.TheVariants.{AwaitOpen, AwaitConfig, AwaitDcepAck, Open, Closed}
use Rattle.rtc_sctp_entries.specs.declared.stream_entry.StreamEntry.{StreamEntry}
use Rattle.rtc_sctp_entries.specs.declared.sctp_event.SctpEvent.{SctpEvent}
use Rattle.rtc_sctp_entries.specs.declared.sctp_event.SctpEvent.TheVariants as event
use Rattle.rtc_sctp_entries.specs.declared.met.Met.{Met}
use Rattle.rtc_sctp_entries.specs.declared.met.Met.TheVariants.{Nothing, Again, Output, OutOfMemory}
use Rattle.rtc_sctp_entries.specs.Entries.{config_or_fresh, is_out_of_band, is_short_entry, with_reset}
use Rattle.rtc_sctp_entries.specs.Visits.{Turn, close_event, is_opening_over, Marks, Starves, Settles, TakesAck, ClosedBy, Closes, NoRoom, Ended, AnnouncedBy, Announces}
use Rattle.rtc_sctp_entries.specs.Visits.{NoMessage, Written, AnnouncesIf, BegunAs, BegunBy, Begins, RetriedIf, RetriedAt, is_adopted, AdoptedIf, OpenedBy, OpensEntry}
use Rattle.rtc_sctp_laws.specs.StreamUses.{TellsStreamOpen}
use Rattle.rtc_run_laws.specs.OwnOpenings.{IsOpeningState}

-- the opening of an entry is begun from here, or it is to be closed: it is not closed, and waits for no config unless it is marked
abbrev pub IsStanding : StreamEntry → Type 0
IsStanding e = (e.state ≡ Closed → ⊥) × (e.state ≡ AwaitConfig → e.marked ≡ true)

-- a step tells that a stream is closed
abbrev pub TellsStreamClosed : Met → ℕ → Type 0
TellsStreamClosed (Output (event.Close id pending)) s = id ≡ s
TellsStreamClosed met s = ⊥

-- a step tells neither that a stream is open nor that one is closed
pub record IsSilent (met : Met) : Type 0 where
  pub opens : (s : ℕ) → TellsStreamOpen met s → ⊥
  pub closes : (s : ℕ) → TellsStreamClosed met s → ⊥

-- What an entry becomes. It is opened from here only where it was before; and it is open, or closed, where that is told.
pub record Goes (met : Met) (e e' : StreamEntry) : Type 0 where
  pub id_is : e'.id ≡ e.id
  pub stands : IsStanding e → IsStanding e' ⊎ TellsStreamClosed met e.id
  pub band_is : is_out_of_band e' ≡ is_out_of_band e
  pub opening : IsOpeningState e'.state → IsOpeningState e.state
  pub tells_open : (s : ℕ) → TellsStreamOpen met s → (e'.id ≡ s) × (e'.state ≡ Open)
  pub tells_closed : (s : ℕ) → TellsStreamClosed met s → (e'.id ≡ s) × (e'.state ≡ Closed)

-- an entry in the same state
pub record IsAs (e f : StreamEntry) : Type 0 where
  pub id_is : f.id ≡ e.id
  pub state_is : f.state ≡ e.state
  pub marked_is : f.marked ≡ e.marked
  pub band_is : is_out_of_band f ≡ is_out_of_band e

pub as_standing : (e f : StreamEntry) → IsAs e f → IsStanding e → IsStanding f
as_standing e f k h = ((λ c. h.0 (sym k.state_is ∙ c)), λ c. k.marked_is ∙ h.1 (sym k.state_is ∙ c))

marked_standing : (e f : StreamEntry) → IsAs e f → IsStanding e → (f.state ≡ Closed → ⊥) × (f.state ≡ AwaitConfig → true ≡ true)
marked_standing e f k h = ((λ c. h.0 (sym k.state_is ∙ c)), λ c. refl)

ack_closed : AwaitDcepAck ≡ Closed → ⊥
ack_closed h = cc

ack_config : AwaitDcepAck ≡ AwaitConfig → ⊥
ack_config h = cc

open_closed : Open ≡ Closed → ⊥
open_closed h = cc

open_config : Open ≡ AwaitConfig → ⊥
open_config h = cc

pub open_not : (st : StreamEntryState) → st ≡ Open → IsOpeningState st → ⊥
open_not st is (inl h) = let clash : Open ≡ AwaitOpen = sym is ∙ h in cc
open_not st is (inr h) = let clash : Open ≡ AwaitDcepAck = sym is ∙ h in cc

pub closed_not : (st : StreamEntryState) → st ≡ Closed → IsOpeningState st → ⊥
closed_not st is (inl h) = let clash : Closed ≡ AwaitOpen = sym is ∙ h in cc
closed_not st is (inr h) = let clash : Closed ≡ AwaitDcepAck = sym is ∙ h in cc

-- in the same state
pub same_opening : (st other : StreamEntryState) → other ≡ st → IsOpeningState other → IsOpeningState st
same_opening st other is (inl h) = inl (sym is ∙ h)
same_opening st other is (inr h) = inr (sym is ∙ h)

pub resting : IsSilent Nothing
resting = record { opens = λ s told. told; closes = λ s told. told }

pub starving : IsSilent OutOfMemory
starving = record { opens = λ s told. told; closes = λ s told. told }

module _ {S : Type 0} (m : AssociationMeaning S) (e : StreamEntry) where
  pub by_turn : (r : Met) (u : Turn S) (met : Met) (t' : Turn S) → met ≡ r → t' ≡ u → Goes r e u.entry → Goes met e t'.entry
  by_turn r u met t' is same h =
      subst (λ (x : Met). Goes x e t'.entry) (sym is) (subst (λ (x : Turn S). Goes r e x.entry) (sym same) h)

  pub as_is : (r : Met) (f : StreamEntry) → IsSilent r → IsAs e f → Goes r e f
  as_is r f silent k = record {
    id_is = k.id_is;
    stands = λ h. inl (as_standing e f k h);
    band_is = k.band_is;
    opening = λ h. same_opening e.state f.state k.state_is h;
    tells_open = λ s told. absurd (silent.opens s told);
    tells_closed = λ s told. absurd (silent.closes s told);
  }

  -- marked
  as_marked : (f g : StreamEntry) → IsAs e f → g ≡ record f { marked = true } → Goes Again e g
  as_marked f g k is =
      subst (λ (y : StreamEntry). Goes Again e y) (sym is)
      (record {
        id_is = k.id_is;
        stands = λ x. inl (marked_standing e f k x);
        band_is = k.band_is;
        opening = λ h. same_opening e.state f.state k.state_is h;
        tells_open = λ s told. absurd told;
        tells_closed = λ s told. absurd told;
      })

  pub starves : (t : Turn S) (met : Met) (t' : Turn S) → IsAs e t.entry → Starves t met t' → Goes met e t'.entry
  starves t met t' k h = by_turn OutOfMemory t met t' h.0 h.1 (as_is OutOfMemory t.entry starving k)

  pub marks : (t : Turn S) (met : Met) (t' : Turn S) → IsAs e t.entry → Marks t met t' → Goes met e t'.entry
  marks t met t' k h = by_turn Again _ met t' h.0 h.1 (as_marked t.entry (record t.entry { marked = true }) k refl)

  -- closed, with its stream told to be
  tells_close : (f : StreamEntry) (resets : List ℕ) → IsAs e f → Goes (Output (close_event f resets)) e (record f { state = Closed })
  tells_close f resets k = record {
    id_is = k.id_is;
    stands = λ x. inr k.id_is;
    band_is = k.band_is;
    opening = λ h. absurd (closed_not Closed refl h);
    tells_open = λ s told. absurd told;
    tells_closed = λ s told. (told, refl);
  }

  closed_by : (answer : Asked) (t : Turn S) (met : Met) (t' : Turn S) → IsAs e t.entry → ClosedBy m answer t met t' → Goes met e t'.entry
  closed_by did.Done t met t' k h = by_turn _ _ met t' h.0 h.1 (tells_close t.entry (with_reset t.entry.id t.resets) k)
  closed_by did.Refused t met t' k h = by_turn _ _ met t' h.0 h.1 (tells_close t.entry t.resets k)
  closed_by did.OutOfMemory t met t' k h = starves t met t' k h

  pub closes : (t : Turn S) (met : Met) (t' : Turn S) → IsAs e t.entry → Closes m t met t' → Goes met e t'.entry
  closes t met t' k (NoRoom h) = starves t met t' k h
  closes t met t' k (Ended answer q asks h) = closed_by answer (record t { association = q }) met t' k h

  -- it is open
  pub opens : (label : List ℕ) (f : StreamEntry) → f.id ≡ e.id → f.state ≡ Open → is_out_of_band f ≡ is_out_of_band e
      → Goes (Output (event.Open f.id label)) e f
  opens label f id state band = record {
    id_is = id;
    stands = λ x. inl ((λ c. open_closed (sym state ∙ c)), λ c. absurd (open_config (sym state ∙ c)));
    band_is = band;
    opening = λ h. absurd (open_not f.state state h);
    tells_open = λ s told. (told, state);
    tells_closed = λ s told. absurd told;
  }

  settles : (f : StreamEntry) (met : Met) (f' : StreamEntry) → IsAs e f → Settles f met f' → Goes met e f'
  settles f Nothing f' k h = absurd h
  settles f Again f' k h = absurd h
  settles f (Output told) f' k h =
      subst (λ (o : SctpEvent). Goes (Output o) e f') (sym h.0)
      (subst (λ (y : StreamEntry). Goes (Output (event.Open f.id (config_or_fresh f.config).label)) e y) (sym h.1)
      (opens (config_or_fresh f.config).label (record f { state = Open }) k.id_is refl k.band_is))
  settles f OutOfMemory f' k h = subst (λ (y : StreamEntry). Goes OutOfMemory e y) (sym h) (as_is OutOfMemory f starving k)

  pub takes_ack : (bytes : List ℕ) (f : StreamEntry) (met : Met) (f' : StreamEntry) → IsAs e f → TakesAck bytes f met f' → Goes met e f'
  takes_ack bytes f Nothing f' k h = absurd h
  takes_ack bytes f Again f' k h = as_marked f f' k h.1
  takes_ack bytes f (Output told) f' k h = settles f (Output told) f' k h.1
  takes_ack bytes f OutOfMemory f' k h = settles f OutOfMemory f' k h.1

  -- an opening
  announced_by : (answer : Asked) (t : Turn S) (met : Met) (t' : Turn S) → IsAs e t.entry → IsOpeningState e.state
      → AnnouncedBy m answer t met t' → Goes met e t'.entry
  announced_by did.Done t met t' k o h =
      by_turn _ _ met t' h.0 h.1
      (record {
        id_is = k.id_is;
        stands = λ x. inl ((λ c. ack_closed c), λ c. absurd (ack_config c));
        band_is = k.band_is;
        opening = λ h. o;
        tells_open = λ s told. absurd told;
        tells_closed = λ s told. absurd told;
      })
  announced_by did.Refused t met t' k o h = closes t met t' k h
  announced_by did.OutOfMemory t met t' k o h = starves t met t' k h

  announces : (t : Turn S) (met : Met) (t' : Turn S) → IsAs e t.entry → IsOpeningState e.state
      → Announces m t met t' → Goes met e t'.entry
  announces t met t' k o (NoMessage h) = starves t met t' k h
  announces t met t' k o (Written answer q asks h) = announced_by answer (record t { association = q }) met t' k o h

  announces_if : (b : Bool) (t : Turn S) (met : Met) (t' : Turn S) → IsAs e t.entry → IsOpeningState e.state
      → AnnouncesIf m b t met t' → Goes met e t'.entry
  announces_if true t met t' k o h = announces t met t' k o h
  announces_if false t met t' k o h = closes t met t' k h

  begun_as : (b : Bool) (t : Turn S) (met : Met) (t' : Turn S) → IsAs e t.entry → IsOpeningState e.state
      → BegunAs m b t met t' → Goes met e t'.entry
  begun_as true t met t' k o h = settles t.entry met t'.entry k h.0
  begun_as false t met t' k o h = announces_if (is_short_entry t.entry) t met t' k o h

  begun_by : (answer : Asked) (t : Turn S) (met : Met) (t' : Turn S) → IsAs e t.entry → IsOpeningState e.state
      → BegunBy m answer t met t' → Goes met e t'.entry
  begun_by did.Done t met t' k o h = begun_as (is_out_of_band t.entry) t met t' k o h
  begun_by did.Refused t met t' k o h = closes t met t' k h
  begun_by did.OutOfMemory t met t' k o h = starves t met t' k h

  begins : (t : Turn S) (met : Met) (t' : Turn S) → IsAs e t.entry → IsOpeningState e.state
      → Begins m t met t' → Goes met e t'.entry
  begins t met t' k o h = begun_by h.answer (record t { association = h.between }) met t' k o h.then

  retried_if : (b : Bool) (t : Turn S) (met : Met) (t' : Turn S) → IsAs e t.entry → IsOpeningState e.state
      → RetriedIf m b t met t' → Goes met e t'.entry
  retried_if true t met t' k o h = closes t met t' k h
  retried_if false t met t' k o h = by_turn Nothing t met t' h.0 h.1 (as_is Nothing t.entry resting k)

  retried_at : (now : ℕ) (first : Option ℕ) (t : Turn S) (met : Met) (t' : Turn S) → IsAs e t.entry → IsOpeningState e.state
      → RetriedAt m now first t met t' → Goes met e t'.entry
  retried_at now None t met t' k o h =
      by_turn Nothing _ met t' h.0 h.1
      (as_is Nothing (record t.entry { refused = Some now }) resting
      (record { id_is = k.id_is; state_is = k.state_is; marked_is = k.marked_is; band_is = k.band_is }))
  retried_at now (Some first) t met t' k o h = retried_if (is_opening_over first now) t met t' k o h

  adopted_if : (b : Bool) (now : ℕ) (t : Turn S) (met : Met) (t' : Turn S) → IsAs e t.entry → IsOpeningState e.state
      → AdoptedIf m b now t met t' → Goes met e t'.entry
  adopted_if true now t met t' k o h = begins t met t' k o h
  adopted_if false now t met t' k o h = retried_at now t.entry.refused t met t' k o h

  opened_by : (answer : Opening) (now : ℕ) (t : Turn S) (met : Met) (t' : Turn S) → IsAs e t.entry → IsOpeningState e.state
      → OpenedBy m answer now t met t' → Goes met e t'.entry
  opened_by opened.Done now t met t' k o h = begins t met t' k o h
  opened_by opened.Exists now t met t' k o h = adopted_if (is_adopted m t) now t met t' k o h
  opened_by opened.Pending now t met t' k o h = retried_at now t.entry.refused t met t' k o h
  opened_by opened.Refused now t met t' k o h = closes t met t' k h
  opened_by opened.OutOfMemory now t met t' k o h = starves t met t' k h

  pub opens_entry : (now : ℕ) (t : Turn S) (met : Met) (t' : Turn S) → IsAs e t.entry → IsOpeningState e.state
      → OpensEntry m now t met t' → Goes met e t'.entry
  opens_entry now t met t' k o h = opened_by h.answer now (record t { association = h.between }) met t' k o h.then

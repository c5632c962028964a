-- What is known of the use of a stream in a visit, and steps that are joined.
use Rattle.std.proofs.Common.{◌≡◌, ℕ, true, List, [], ◌++◌, append-nil, append_assoc, refl, sym, ap, subst, ◌∙◌}
use Rattle.rtc_parts.specs.AssociationMeaning.{AssociationMeaning}
use Rattle.rtc_sctp_entries.specs.declared.stream_entry_state.StreamEntryState.{StreamEntryState}
use Rattle.rtc_sctp_entries.specs.declared.stream_entry_state.StreamEntryState.TheVariants.{Open}
use Rattle.rtc_sctp_entries.specs.declared.stream_entry.StreamEntry.{StreamEntry}
use Rattle.rtc_sctp_entries.specs.declared.sctp_event.SctpEvent.{SctpEvent}
use Rattle.rtc_sctp_entries.specs.declared.sctp_event.SctpEvent.TheVariants as event
use Rattle.rtc_sctp_entries.specs.declared.met.Met.{Met}
use Rattle.rtc_sctp_entries.specs.declared.met.Met.TheVariants.{Nothing, Again, Output, OutOfMemory}
use Rattle.rtc_sctp_entries.specs.Entries.{is_out_of_band}
use Rattle.rtc_sctp_entries.specs.Visits.{Turn}
use Rattle.rtc_sctp_laws.specs.StreamMessages.{StreamMessage, are_dcep, data_met, packets_met, resets_met}
use Rattle.rtc_sctp_laws.specs.StreamActs.{AssociationDid}
use Rattle.rtc_sctp_laws.proofs.MessageLemmas.{dcep_join}
use Rattle.rtc_sctp_laws.proofs.ActLemmas.{did_none, did_join}
use Rattle.rtc_sctp_laws.specs.GenerationLaws.{GenerationLaws}
use Rattle.rtc_sctp_laws.specs.StreamUses.{are_of_stream, IsOpenedIn, IsDcepInBand, IsUsedBy, IsReached}
use Rattle.rtc_sctp_laws.proofs.GenerationMessages.{own_join}
use Rattle.rtc_sctp_laws.proofs.KnownUses.{now_of}

-- what was told of an entry that is open
abbrev pub TurnOpens : Met → StreamEntry → (generation : ℕ) → (written heard : List StreamMessage) → Type 0
TurnOpens (Output (event.Open id label)) e g ws hs = IsOpenedIn e g ws hs
TurnOpens met e g ws hs = Unit {0}

-- a stream that is told to be open, or to be closed, is the one that was visited
abbrev pub OpensOwn : Met → ℕ → Type 0
OpensOwn (Output (event.Open id label)) s = id ≡ s
OpensOwn (Output (event.Close id pending)) s = id ≡ s
OpensOwn met s = Unit {0}

module _ {S : Type 0} (m : AssociationMeaning S) where
  -- what a visit leaves of the use of its stream
  pub record TurnLeft (met : Met) (s : ℕ) (ws hs : List StreamMessage) (t : Turn S) : Type 0 where
    pub reached : IsReached m s ws hs t.association
    pub used : IsUsedBy m t.entry s t.association ws hs
    pub opens : TurnOpens met t.entry (m.generation t.association s) (now_of m t.association s ws) (now_of m t.association s hs)

  abbrev pub TurnLeaves : Met → ℕ → (ws hs : List StreamMessage) → Turn S → Type 0
  TurnLeaves OutOfMemory s ws hs t = Unit {0}
  TurnLeaves Nothing s ws hs t = TurnLeft Nothing s ws hs t
  TurnLeaves Again s ws hs t = TurnLeft Again s ws hs t
  TurnLeaves (Output e) s ws hs t = TurnLeft (Output e) s ws hs t

  -- what is done where so much is known of the use, and nothing further is read; of an open entry nothing is written
  pub record Arm (st : StreamEntryState) (s : ℕ) (Known : List StreamMessage → List StreamMessage → Type 0) (shows : List SctpEvent) (a : S) (met : Met) (t' : Turn S) : Type 0 where
    pub wrote : List StreamMessage
    pub did : AssociationDid m [] [] [] wrote [] a t'.association
    pub dcep : are_dcep wrote ≡ true
    pub own : are_of_stream s wrote ≡ true
    pub idle : st ≡ Open → wrote ≡ []
    pub sent_is : packets_met met ≡ []
    pub reset_is : resets_met met ≡ []
    pub shown_is : data_met met ≡ shows
    pub id_is : t'.entry.id ≡ s
    pub opens_own : OpensOwn met s
    pub leaves : GenerationLaws m → (ws hs : List StreamMessage) → Known ws hs → TurnLeaves met s (ws ++ wrote) hs t'

  -- what is known of the use before a visit
  abbrev pub UsedTurn : ℕ → Turn S → (ws hs : List StreamMessage) → Type 0
  UsedTurn s t ws hs = IsReached m s ws hs t.association × IsUsedBy m t.entry s t.association ws hs

  -- how the association is reached, and that messages of DCEP are written in-band
  abbrev pub WrittenInBand : Turn S → (ws hs : List StreamMessage) → Type 0
  WrittenInBand t ws hs =
      IsReached m t.entry.id ws hs t.association
      × IsDcepInBand m t.entry.state (is_out_of_band t.entry) t.entry.id t.association (now_of m t.association t.entry.id ws)

  -- nothing was written or read of the generation
  abbrev pub BlankTurn : ℕ → S → (ws hs : List StreamMessage) → Type 0
  BlankTurn s a ws hs = IsReached m s ws hs a × (now_of m a s ws ≡ []) × (now_of m a s hs ≡ [])

  -- the last step, after which the association is as it was
  pub still : (st : StreamEntryState) (s : ℕ) (Known : List StreamMessage → List StreamMessage → Type 0) (shows : List SctpEvent) (r : Met) (u : Turn S) (met : Met) (t' : Turn S) → met ≡ r → t' ≡ u → packets_met r ≡ [] → resets_met r ≡ [] → data_met r ≡ shows → (u.entry.id ≡ s) × OpensOwn r s
      → ((ws hs : List StreamMessage) → Known ws hs → TurnLeaves r s ws hs u) → Arm st s Known shows u.association met t'
  still st s Known shows r u met t' e f sent reset shown id leaves =
      subst (λ (x : Met). Arm st s Known shows u.association x t') (sym e)
      (subst (λ (x : Turn S). Arm st s Known shows u.association r x) (sym f) (record {
        wrote = [];
        did = did_none m u.association;
        dcep = refl;
        own = refl;
        idle = λ k. refl;
        sent_is = sent;
        reset_is = reset;
        shown_is = shown;
        id_is = id.0;
        opens_own = id.1;
        leaves = λ v ws hs h. subst (λ (l : List StreamMessage). TurnLeaves r s l hs u) (sym (append-nil ws)) (leaves ws hs h);
      }))

  -- a step of the association, and what follows
  pub behind : (st : StreamEntryState) (s : ℕ) (Known Next : List StreamMessage → List StreamMessage → Type 0) (shows : List SctpEvent) (wrote : List StreamMessage) (a b : S) (met : Met) (t' : Turn S) → AssociationDid m [] [] [] wrote [] a b → are_dcep wrote ≡ true → are_of_stream s wrote ≡ true → (st ≡ Open → wrote ≡ [])
      → (GenerationLaws m → (ws hs : List StreamMessage) → Known ws hs → Next (ws ++ wrote) hs) → Arm st s Next shows b met t' → Arm st s Known shows a met t'
  behind st s Known Next shows wrote a b met t' d k own idle step z = record {
    wrote = wrote ++ z.wrote;
    did = did_join m [] [] [] [] [] [] wrote z.wrote [] [] a b t'.association d z.did;
    dcep = dcep_join wrote z.wrote k z.dcep;
    own = own_join s wrote z.wrote own z.own;
    idle = λ k. ap (λ (l : List StreamMessage). l ++ z.wrote) (idle k) ∙ z.idle k;
    sent_is = z.sent_is;
    reset_is = z.reset_is;
    shown_is = z.shown_is;
    id_is = z.id_is;
    opens_own = z.opens_own;
    leaves = λ v ws hs h. subst (λ (l : List StreamMessage). TurnLeaves met s l hs t') (append_assoc ws wrote z.wrote) (z.leaves v (ws ++ wrote) hs (step v ws hs h));
  }

  -- less is to be known where more is
  pub known : (st : StreamEntryState) (s : ℕ) (Known Next : List StreamMessage → List StreamMessage → Type 0) (shows : List SctpEvent) (a : S) (met : Met) (t' : Turn S) → ((ws hs : List StreamMessage) → Known ws hs → Next ws hs) → Arm st s Next shows a met t' → Arm st s Known shows a met t'
  known st s Known Next shows a met t' step z = record {
    wrote = z.wrote;
    did = z.did;
    dcep = z.dcep;
    own = z.own;
    idle = z.idle;
    sent_is = z.sent_is;
    reset_is = z.reset_is;
    shown_is = z.shown_is;
    id_is = z.id_is;
    opens_own = z.opens_own;
    leaves = λ v ws hs h. z.leaves v ws hs (step ws hs h);
  }

  -- a step that writes nothing
  pub plainly : (P : List StreamMessage → List StreamMessage → Type 0) (ws hs : List StreamMessage) → P ws hs → P (ws ++ []) hs
  plainly P ws hs h = subst (λ (l : List StreamMessage). P l hs) (sym (append-nil ws)) h

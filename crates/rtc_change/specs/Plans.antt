-- What an offer or an answer does to the rows of a peer, or the first cause for which it is refused.
use Rattle.std.specs.Prelude.{ℕ, ◌≡◌, ◌&&◌, ◌||◌, not, Bool, true, false, List, [], ◌∷◌, length, if◌then◌else◌}
use Rattle.std.specs.Prelude.{Option, Some, None, option_map, is_some, Result, Ok, Err}
use Rattle.std.specs.Str.{bytes_eq}
use Rattle.rtc_sdp_values.specs.declared.fingerprint.Fingerprint.{Fingerprint}
use Rattle.rtc_sdp_values.specs.declared.ice_creds.IceCreds.{IceCreds}
use Rattle.rtc_sdp_values.specs.declared.line_row.LineRow.{LineRow}
use Rattle.rtc_sdp_values.specs.declared.sdp.Sdp.{Sdp}
use Rattle.rtc_sdp_values.specs.declared.sdp_error.SdpError.TheVariants.{Inconsistent as NotConsistent}
use Rattle.rtc_sdp_values.specs.Sdp.{inconsistency, creds_of, sdp_fingerprint, sdp_sctp_init}
use Rattle.rtc_peer_rows.specs.declared.parsed_line.ParsedLine.{ParsedLine}
use Rattle.rtc_peer_rows.specs.declared.plan.Plan.{Plan}
use Rattle.rtc_peer_rows.specs.declared.why.Why.{Why}
use Rattle.rtc_peer_rows.specs.declared.why.Why.TheVariants.{NoLines, BothLite, NoCredentials, UnaskedRestart, NoFingerprint}
use Rattle.rtc_peer_rows.specs.declared.why.Why.TheVariants.{SctpInitChanged, SctpInitMissing, WrongNewLines}
use Rattle.rtc_change.specs.declared.refusal.Refusal.{Refusal}
use Rattle.rtc_change.specs.declared.refusal.Refusal.TheVariants.{RemoteSdp, Sdp as SdpRefused, Alloc}
use Rattle.rtc_change.specs.PendingOffer.{PendingOffer, added_rows, staged_restart}
use Rattle.rtc_change.specs.Held.{Held, Asked}
use Rattle.rtc_peer_rows.specs.ParsedLines.{parsed_lines}
use Rattle.rtc_peer_rows.specs.Verdict.{first_of, first_refusal}
use Rattle.rtc_change.specs.TableAfter.{table_after, new_places, removed_mids}
use Rattle.rtc_change.specs.WrongLines.{wrong_lines}

-- a description without a token is an offer
abbrev pub is_offer : Option Asked → Bool
is_offer None = true
is_offer (Some asked) = false

abbrev pub remote_refusal : Option Why → Option Refusal
remote_refusal why = option_map RemoteSdp why

-- an offer says at least one line
abbrev pub no_lines : Option Asked → List ParsedLine → Option Refusal
no_lines None [] = Some (RemoteSdp NoLines)
no_lines None (line ∷ lines) = None
no_lines (Some asked) lines = None

abbrev pub inconsistent : Sdp → Option Refusal
inconsistent sdp = option_map (λ cause. SdpRefused (NotConsistent cause)) (inconsistency sdp)

-- the new lines of an answer; an offer may add any
abbrev pub wrong_news : List LineRow → Option Asked → List ParsedLine → Option Refusal
wrong_news rows None parsed = None
wrong_news rows (Some asked) parsed = remote_refusal (option_map WrongNewLines (wrong_lines rows asked.added parsed))

-- two sides that are lite have nobody to make checks (RFC 8445, section 6.1.1)
abbrev pub both_lite : Bool → Bool → Option Refusal
both_lite lite other = if lite && other then Some (RemoteSdp BothLite) else None

abbrev pub no_credentials : Option IceCreds → Option Refusal
no_credentials None = Some (RemoteSdp NoCredentials)
no_credentials (Some creds) = None

abbrev pub same_creds : IceCreds → IceCreds → Bool
same_creds a b = bytes_eq a.ufrag b.ufrag && bytes_eq a.pass b.pass

-- credentials that differ from known ones mean a restart (RFC 8839, section 4.4.3.1)
abbrev pub is_restart : Option IceCreds → Option IceCreds → Bool
is_restart (Some known) (Some got) = not (same_creds known got)
is_restart (Some known) None = false
is_restart None got = false

-- an offer may restart ICE, an answer if its offer did
abbrev pub may_restart : Option Asked → Bool
may_restart None = true
may_restart (Some asked) = asked.restarts

-- a restart that may not be is refused, with both credentials
abbrev pub unasked_restart : Bool → Option IceCreds → Option IceCreds → Option Refusal
unasked_restart may (Some known) (Some got) =
    if same_creds known got || may then None else Some (RemoteSdp (UnaskedRestart known got))
unasked_restart may (Some known) None = None
unasked_restart may None got = None

-- a certificate can be checked only if a fingerprint was announced (RFC 8122, section 5)
abbrev pub no_fingerprint : Bool → Option Fingerprint → Option Refusal
no_fingerprint false None = Some (RemoteSdp NoFingerprint)
no_fingerprint false (Some fingerprint) = None
no_fingerprint true told = None

-- once the association was started by both SNAP INIT chunks, a description carries the chunk that was kept (draft-hancke-tsvwg-snap)
abbrev pub changed_init : List ℕ → Option (List ℕ) → Option Refusal
changed_init kept None = Some (RemoteSdp (SctpInitMissing kept))
changed_init kept (Some got) = if bytes_eq kept got then None else Some (RemoteSdp (SctpInitChanged kept got))

abbrev pub init_refusal : Bool → Option (List ℕ) → Option (List ℕ) → Option Refusal
init_refusal true (Some kept) told = changed_init kept told
init_refusal true None told = None
init_refusal false kept told = None

-- whether the chunk of a description may start the association: it is not started, and an answer's offer carried one too
abbrev pub may_take_init : Option Asked → Bool
may_take_init None = true
may_take_init (Some asked) = asked.says_init

abbrev pub takes_init : (inited may : Bool) → Option (List ℕ) → Bool
takes_init inited may told = not inited && (may && is_some told)

-- the refusal of what a session description says of its side: how it is reached and known
unfoldable pub side_verdict : Held → Bool → Sdp → Option Refusal
side_verdict held may sdp =
    first_of (
    both_lite held.lite sdp.ice_lite
    ∷ no_credentials (creds_of sdp)
    ∷ unasked_restart may held.remote_creds (creds_of sdp)
    ∷ no_fingerprint held.has_fingerprint (sdp_fingerprint sdp)
    ∷ []
    )

-- the refusal of the head, before the lines are read
unfoldable pub head_verdict : Held → Option Asked → Sdp → Option Refusal
head_verdict held asked sdp =
    first_of (
    no_lines asked (parsed_lines sdp)
    ∷ side_verdict held (may_restart asked) sdp
    ∷ init_refusal held.sctp_inited held.sctp_kept (sdp_sctp_init sdp)
    ∷ inconsistent sdp
    ∷ []
    )

-- why an offer or an answer is refused: the first cause that holds, in this order
unfoldable pub verdict : Held → Option Asked → Sdp → Option Refusal
verdict held asked sdp =
    first_of (
    head_verdict held asked sdp
    ∷ remote_refusal (first_refusal held.lines (is_offer asked) false 0 (parsed_lines sdp))
    ∷ wrong_news held.lines asked (parsed_lines sdp)
    ∷ []
    )

-- what an offer or an answer does if it is accepted
abbrev pub plan_of : Held → (offer may : Bool) → Sdp → Plan
plan_of held offer may sdp = record {
  rows = table_after held.lines (parsed_lines sdp) offer;
  removed = removed_mids held.lines 0 (parsed_lines sdp);
  added = new_places held.lines 0 (parsed_lines sdp);
  restart = is_restart held.remote_creds (creds_of sdp);
  snap = takes_init held.sctp_inited may (sdp_sctp_init sdp);
}

-- what a token asks of an answer at these rows
abbrev pub asked_by : List LineRow → PendingOffer → Asked
asked_by rows token = record {
  added = added_rows (length rows) token.changes;
  restarts = is_some (staged_restart token.changes);
  says_init = token.says_init;
}

-- the plan, or the verdict, or there is no memory
abbrev pub PlansSdp : Held → Option Asked → Sdp → Result Plan Refusal → Type 0
PlansSdp held asked sdp (Ok plan) =
    (verdict held asked sdp ≡ None) × (plan ≡ plan_of held (is_offer asked) (may_take_init asked) sdp)
PlansSdp held asked sdp (Err (RemoteSdp why)) = verdict held asked sdp ≡ Some (RemoteSdp why)
PlansSdp held asked sdp (Err (SdpRefused error)) = verdict held asked sdp ≡ Some (SdpRefused error)
PlansSdp held asked sdp (Err Alloc) = Unit {0}

-- The datagrams that the plain media part gives.
use Rattle.std.proofs.Common.{ℕ, Bool, List, [], ◌∷◌, sym, subst}
use Rattle.rtc_parts.specs.MediaActs.{MediaAct, MediaGiven, MediaTaken, MediaStirred, MediaMoved, Committed, LineRemoved}
use Rattle.rtc_plain_media.specs.Feedback.{EachBegins}
use Rattle.rtc_plain_media.specs.MediaContents.{MediaContents}
use Rattle.rtc_plain_media.specs.PlainMediaMeaning.{plain_media_meaning}
use Rattle.rtc_plain_media.specs.ActLemmas.{MediaEffect, Staying, ChangingLines, Keeping, Preparing, effect, gives_some}

-- the datagrams that a list of acts took
abbrev pub datagrams_taken : List MediaAct → List (List ℕ)
datagrams_taken [] = []
datagrams_taken (MediaTaken datagram ∷ acts) = datagram ∷ datagrams_taken acts
datagrams_taken (MediaGiven packet ∷ acts) = datagrams_taken acts
datagrams_taken (MediaStirred why ∷ acts) = datagrams_taken acts

queued_begin : (p q : MediaContents) (b : Bool) → MediaEffect p b q → EachBegins p.datagrams → EachBegins q.datagrams
queued_begin p q t (Staying (Keeping k)) b = k.begins b
queued_begin p q t (ChangingLines (Committed h) e) b = subst (λ (c : MediaContents). EachBegins c.datagrams) (sym h) b
queued_begin p q t (ChangingLines (LineRemoved mid h) e) b = subst (λ (c : MediaContents). EachBegins c.datagrams) (sym h) b
queued_begin p q t (Staying (Preparing updates e h)) b = subst (λ (c : MediaContents). EachBegins c.datagrams) (sym h) b

-- if those that wait begin with 80, those that are taken do, too
pub taken_begin : (p q : MediaContents) (acts : List MediaAct) → EachBegins p.datagrams → MediaMoved plain_media_meaning p acts q
    → EachBegins (datagrams_taken acts)
taken_begin p q [] b h = tt
taken_begin p q (MediaTaken datagram ∷ acts) b (r, (a, more)) =
    let t = gives_some p.datagrams p r datagram a.1 in
    ((subst EachBegins t.0.is b).0, taken_begin r q acts (queued_begin p r _ (effect p r (MediaTaken datagram) a) b) more)
taken_begin p q (MediaGiven packet
    ∷ acts) b (r, (a, more)) = taken_begin r q acts (queued_begin p r _ (effect p r (MediaGiven packet) a) b) more
taken_begin p q (MediaStirred why
    ∷ acts) b (r, (a, more)) = taken_begin r q acts (queued_begin p r _ (effect p r (MediaStirred why) a) b) more

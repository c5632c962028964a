-- Lists of uses of channels, prefixes, and what is written of a message of a user.
use Rattle.std.proofs.Common.{◌≡◌, ◌∙◌, ◌++◌, ◌∷◌, ◌==◌, if◌then◌else◌, ℕ, Bool, true, false, List, [], map, append-nil, append_assoc, inl, inr, refl, sym, ap, subst}
use Rattle.rtc_parts.specs.Among.{Member}
use Rattle.rtc_channels.specs.Channels.{Channel}
use Rattle.rtc_assoc.specs.Unread.{IsPrefix}
use Rattle.rtc_parts.specs.AssociationWords.{AssociationMessage}
use Rattle.rtc_sctp.specs.Calls.{is_nil, written_ppi}
use Rattle.rtc_sctp_laws.specs.StreamMessages.{StreamMessage, HaveNamedPpis, stream_message}
use Rattle.rtc_sctp_laws.specs.StreamUses.{is_of_generation, messages_of}
use Rattle.rtc_sctp_laws.specs.Contents.{contents_by, contents_of, numbered_message}
use Rattle.rtc_sctp_laws.proofs.ContentLemmas.{contents-append, contents_by-append}
use Rattle.rtc_sctp_laws.proofs.GenerationMessages.{messages-append}
use Rattle.rtc_run_laws.specs.ChannelUses.{ChannelUse, loses_channel, with_got_message, with_rolled_back, with_sent_message}

-- ---- prefixes

pub prefix_same : {A : Type 0} (xs ys : List A) → xs ≡ ys → IsPrefix xs ys
prefix_same xs ys h = record { rest = []; is = append-nil xs ∙ h }

pub prefix_more : {A : Type 0} (xs ys more : List A) → IsPrefix xs ys → IsPrefix xs (ys ++ more)
prefix_more xs ys more h = record { rest = h.rest ++ more; is = sym (append_assoc xs h.rest more) ∙ ap (λ l. l ++ more) h.is }

-- what begins the contents of the messages of a generation begins them too if there are more
pub first_more : (s g : ℕ) (sent : List (Bool × List ℕ)) (written wrote : List StreamMessage) → IsPrefix sent (contents_of (messages_of s g written))
    → IsPrefix sent (contents_of (messages_of s g (written ++ wrote)))
first_more s g sent written wrote h =
    subst (λ (l : List (Bool × List ℕ)). IsPrefix sent l)
    (sym (ap contents_of (messages-append s g written wrote) ∙ contents-append (messages_of s g written) (messages_of s g wrote)))
    (prefix_more sent (contents_of (messages_of s g written)) (contents_of (messages_of s g wrote)) h)

pub prefix_through : {A : Type 0} (xs ys zs : List A) → IsPrefix xs ys → IsPrefix ys zs → IsPrefix xs zs
prefix_through xs ys zs h k = record {
  rest = h.rest ++ k.rest;
  is = sym (append_assoc xs h.rest k.rest) ∙ ap (λ l. l ++ k.rest) h.is ∙ k.is;
}

pub prefix_contents : (xs ys : List AssociationMessage) → IsPrefix xs ys → IsPrefix (contents_by xs) (contents_by ys)
prefix_contents xs ys h = record { rest = contents_by h.rest; is = sym (contents_by-append xs h.rest) ∙ ap contents_by h.is }

-- ---- messages

pub none_numbered : (l : List StreamMessage) → map numbered_message l ≡ [] → l ≡ []
none_numbered [] h = refl
none_numbered (x ∷ l) h = absurd (no_cons (numbered_message x) (map numbered_message l) h)
  where
    no_cons : (y : AssociationMessage) (ys : List AssociationMessage) → y ∷ ys ≡ [] → ⊥
    no_cons y ys f = cc

pub named_join : (xs ys : List StreamMessage) → HaveNamedPpis xs → HaveNamedPpis ys → HaveNamedPpis (xs ++ ys)
named_join [] ys h k = k
named_join (x ∷ xs) ys h k = (h.0, named_join xs ys h.1 k)

pub named_kept : (s g : ℕ) (l : List StreamMessage) → HaveNamedPpis l → HaveNamedPpis (messages_of s g l)
named_kept s g [] h = tt
named_kept s g (x ∷ l) h = by (is_of_generation s g x) (named_kept s g l h.1)
  where
    by : (b : Bool) → HaveNamedPpis (messages_of s g l) → HaveNamedPpis (if b then x ∷ messages_of s g l else messages_of s g l)
    by true rest = (h.0, rest)
    by false rest = rest

-- what a user writes is carried
pub written_carries : (s g : ℕ) (binary : Bool) (bytes : List ℕ)
    → contents_of (stream_message s g (written_ppi binary (is_nil bytes)) bytes ∷ []) ≡ (binary, bytes) ∷ []
written_carries s g true [] = refl
written_carries s g false [] = refl
written_carries s g true (byte ∷ bytes) = refl
written_carries s g false (byte ∷ bytes) = refl

-- ---- uses

abbrev pub AllUses : (ChannelUse → Type 0) → List ChannelUse → Type 0
AllUses P [] = Unit {0}
AllUses P (x ∷ uses) = P x × AllUses P uses

pub all_kept : (P Q : ChannelUse → Type 0) (uses : List ChannelUse) → ((x : ChannelUse) → P x → Q x) → AllUses P uses → AllUses Q uses
all_kept P Q [] keeps h = tt
all_kept P Q (x ∷ uses) keeps h = (keeps x h.0, all_kept P Q uses keeps h.1)

pub all_more : (P : ChannelUse → Type 0) (uses : List ChannelUse) (x : ChannelUse) → AllUses P uses → P x → AllUses P (uses ++ x ∷ [])
all_more P [] x h k = (k, tt)
all_more P (y ∷ uses) x h k = (h.0, all_more P uses x h.1 k)

pub all_member : (P : ChannelUse → Type 0) (uses : List ChannelUse) (x : ChannelUse) → AllUses P uses → Member x uses → P x
all_member P [] x h k = absurd k
all_member P (y ∷ uses) x h (inl same) = subst P (sym same) h.0
all_member P (y ∷ uses) x h (inr there) = all_member P uses x h.1 there

pub all_sent : (P Q : ChannelUse → Type 0) (c : ℕ) (message : Bool × List ℕ) (uses : List ChannelUse)
    → ((x : ChannelUse) → (x.channel == c) ≡ true → P x → Q (record x { sent = x.sent ++ message ∷ [] }))
    → ((x : ChannelUse) → (x.channel == c) ≡ false → P x → Q x) → AllUses P uses → AllUses Q (with_sent_message c message uses)
all_sent P Q c message [] own other h = tt
all_sent P Q c message (x ∷ uses) own other h = (by (x.channel == c) refl, all_sent P Q c message uses own other h.1)
  where
    by : (b : Bool) → (x.channel == c) ≡ b → Q (if b then record x { sent = x.sent ++ message ∷ [] } else x)
    by true e = own x e h.0
    by false e = other x e h.0

pub all_got : (P Q : ChannelUse → Type 0) (c : ℕ) (message : Bool × List ℕ) (uses : List ChannelUse)
    → ((x : ChannelUse) → (x.channel == c) ≡ true → P x → Q (record x { got = x.got ++ message ∷ [] }))
    → ((x : ChannelUse) → (x.channel == c) ≡ false → P x → Q x) → AllUses P uses → AllUses Q (with_got_message c message uses)
all_got P Q c message [] own other h = tt
all_got P Q c message (x ∷ uses) own other h = (by (x.channel == c) refl, all_got P Q c message uses own other h.1)
  where
    by : (b : Bool) → (x.channel == c) ≡ b → Q (if b then record x { got = x.got ++ message ∷ [] } else x)
    by true e = own x e h.0
    by false e = other x e h.0

pub all_rolled : (P Q : ChannelUse → Type 0) (before after : List Channel) (uses : List ChannelUse)
    → ((x : ChannelUse) → loses_channel x.channel before after ≡ true → P x → Q (record x { rolled_back = true }))
    → ((x : ChannelUse) → loses_channel x.channel before after ≡ false → P x → Q x) → AllUses P uses
    → AllUses Q (with_rolled_back before after uses)
all_rolled P Q before after [] lost left h = tt
all_rolled P Q before after (x ∷ uses) lost left h =
    (by (loses_channel x.channel before after) refl, all_rolled P Q before after uses lost left h.1)
  where
    by : (b : Bool) → loses_channel x.channel before after ≡ b → Q (if b then record x { rolled_back = true } else x)
    by true e = lost x e h.0
    by false e = left x e h.0

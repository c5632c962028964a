-- What tables of places and of addresses find, after each change of them.
use Rattle.std.proofs.Common.{◌≡◌, ◌==◌, ◌&&◌, ◌||◌, ◌++◌, ℕ, Bool, true, false, not, cond, true≢false, List, [], ◌∷◌, Result, Ok, Err, refl, sym, ap, subst, ◌∙◌, arith}
use Rattle.std.proofs.lemmas.Bool.Decides.{Decides-eqb}
use Rattle.std.proofs.lemmas.Grind.{common_steps}
use Rattle.std.proofs.lemmas.Slice.Eq.{bytes_eq-Decides}
use Rattle.std.specs.List.{list_any}
use Rattle.std.specs.Prelude.{IsOk, IfOk}
use Rattle.std.specs.Str.{bytes_eq}
use Rattle.rtc_wire.specs.declared.addr.Addr.{Addr}
use Rattle.rtc_wire.specs.declared.protocol.Protocol.{Protocol}
use Rattle.rtc_wire.specs.declared.protocol.Protocol.TheVariants.{Udp, Tcp, SslTcp, Tls}
use Rattle.rtc_sdp_values.specs.declared.candidate.Candidate.{Candidate}
use Rattle.rtc_plain_ice.specs.declared.addr_key.AddrKey.{AddrKey}
use Rattle.rtc_plain_ice.specs.declared.place_key.PlaceKey.{PlaceKey}
use Rattle.rtc_plain_ice.specs.Places.{protocol_number, is_same_addr, is_same_place, has_viable, has_addr, with_addr, without_place}
use Rattle.rtc_plain_ice.specs.PlaceTables.{addr_key, place_key, same_addr_key, same_place_key, key_with, has_key, addrs_of}

both : (s t : Bool) → s && t ≡ true → (s ≡ true) × (t ≡ true)
both true t h = (refl, h)
both false t h = absurd cc

abbrev addr_with : ℕ → List ℕ → AddrKey
addr_with port ip = record { port = port; ip = ip }

-- keys that are found equal are the same
same_address : (a b : AddrKey) → same_addr_key a b ≡ true → a ≡ b
same_address a b h =
    let parts = both (a.port == b.port) (bytes_eq a.ip b.ip) h in
    ap (λ (port : ℕ). addr_with port a.ip) ((Decides-eqb a.port b.port).0 parts.0) ∙ ap (λ (ip : List ℕ). addr_with b.port ip) ((bytes_eq-Decides a.ip b.ip).0 parts.1)

same_key : (a b : PlaceKey) → same_place_key a b ≡ true → a ≡ b
same_key a b h =
    let parts = both (a.proto == b.proto) (same_addr_key a.addr b.addr) h in
    ap (λ (proto : ℕ). key_with proto a.addr) ((Decides-eqb a.proto b.proto).0 parts.0) ∙ ap (λ (addr : AddrKey). key_with b.proto addr) (same_address a.addr b.addr parts.1)

same_both : (s t : Bool) → s ≡ true → t ≡ true → s && t ≡ true
same_both s t h k = rw (h, k) refl

own_address : (a : AddrKey) → same_addr_key a a ≡ true
own_address a = same_both (a.port == a.port) (bytes_eq a.ip a.ip) ((Decides-eqb a.port a.port).1 refl) ((bytes_eq-Decides a.ip a.ip).1 refl)

-- both tell the same, either way round
turned : (s t : Bool) → (s ≡ true → t ≡ true) → (t ≡ true → s ≡ true) → s ≡ t
turned true t there back = sym (there refl)
turned false true there back = back refl
turned false false there back = refl

addresses_turned : (a b : AddrKey) → same_addr_key a b ≡ same_addr_key b a
addresses_turned a b = turned (same_addr_key a b) (same_addr_key b a) (back a b) (back b a)
  where
    back : (x y : AddrKey) → same_addr_key x y ≡ true → same_addr_key y x ≡ true
    back x y h = subst (λ (k : AddrKey). same_addr_key y k ≡ true) (sym (same_address x y h)) (own_address y)

-- an address is found among the keys where it is among their addresses
pub address_found : (a : Addr) (keys : List AddrKey) → list_any (same_addr_key (addr_key a)) keys ≡ has_addr a (addrs_of keys)
address_found a [] = refl
address_found a (k ∷ ks) =
    ap (λ (b : Bool). b || list_any (same_addr_key (addr_key a)) ks) (addresses_turned (addr_key a) k)
    ∙ ap (λ (b : Bool). same_addr_key k (addr_key a) || b) (address_found a ks)

addresses_behind : (keys : List AddrKey) (a : Addr) → addrs_of (keys ++ addr_key a ∷ []) ≡ addrs_of keys ++ a ∷ []
addresses_behind [] a = refl
addresses_behind (k ∷ ks) a = ap (λ (l : List Addr). record { port = k.port; ip = k.ip } ∷ l) (addresses_behind ks a)

pub address_kept : (a : Addr) (keys : List AddrKey) → addrs_of (cond (list_any (same_addr_key (addr_key a)) keys) keys (keys ++ addr_key a ∷ [])) ≡ with_addr a (addrs_of keys)
address_kept a keys = by (list_any (same_addr_key (addr_key a)) keys) (has_addr a (addrs_of keys)) (address_found a keys)
  where
    by : (b c : Bool) → b ≡ c → addrs_of (cond b keys (keys ++ addr_key a ∷ [])) ≡ cond c (addrs_of keys) (addrs_of keys ++ a ∷ [])
    by true true is = refl
    by false false is = addresses_behind keys a
    by true false is = absurd cc
    by false true is = absurd cc

-- candidates of one place are gone, and no others
moved : (key : PlaceKey) (x c : Candidate) → is_same_place x c ≡ true → has_key key x ≡ has_key key c
moved key x c is = ap (λ (k : PlaceKey). same_place_key k key) (same_key (place_key x) (place_key c) is)

apart : (key : PlaceKey) (x c : Candidate) → is_same_place x c ≡ false → has_key key c ≡ true → has_key key x ≡ false
apart key x c is held = by (has_key key x) refl
  where
    by : (b : Bool) → has_key key x ≡ b → b ≡ false
    by false h = refl
    by true h =
        let one : key ≡ place_key c = sym (same_key (place_key c) key held) in
        absurd (true≢false (sym (subst (λ (k : PlaceKey). same_place_key (place_key x) k ≡ true) one h) ∙ is))

none_left : (b : Bool) → false ≡ cond b false false
none_left true = refl
none_left false = refl

any_without : (key : PlaceKey) (c : Candidate) (rows : List Candidate) → list_any (has_key key) (without_place c rows) ≡ cond (has_key key c) false (list_any (has_key key) rows)
any_without key c [] = none_left (has_key key c)
any_without key c (x ∷ xs) = by (is_same_place x c) refl (has_key key c) refl (any_without key c xs)
  where
    by : (gone : Bool) → is_same_place x c ≡ gone → (b : Bool) → has_key key c ≡ b → list_any (has_key key) (without_place c xs) ≡ cond (has_key key c) false (list_any (has_key key) xs)
        → list_any (has_key key) (cond (not gone) (x ∷ without_place c xs) (without_place c xs)) ≡ cond b false (has_key key x || list_any (has_key key) xs)
    by true is true own rest = rest ∙ ap (λ (s : Bool). cond s false (list_any (has_key key) xs)) own
    by true is false own rest =
        rest ∙ ap (λ (s : Bool). cond s false (list_any (has_key key) xs)) own
        ∙ sym (ap (λ (s : Bool). s || list_any (has_key key) xs) (moved key x c is ∙ own))
    by false is true own rest =
        ap (λ (s : Bool). s || list_any (has_key key) (without_place c xs)) (apart key x c is own)
        ∙ rest ∙ ap (λ (s : Bool). cond s false (list_any (has_key key) xs)) own
    by false is false own rest = ap (λ (b : Bool). has_key key x || b) (rest ∙ ap (λ (s : Bool). cond s false (list_any (has_key key) xs)) own)

pub found_without : (key : PlaceKey) (rows left : List Candidate) (c : Candidate) (k : PlaceKey) (old new : Bool) → k ≡ place_key c → old ≡ list_any (has_key key) rows
    → left ≡ without_place c rows → new ≡ cond (same_place_key k key) false old → new ≡ list_any (has_key key) left
found_without key rows left c k old new own held kept is =
    is
    ∙ ap (λ (other : PlaceKey). cond (same_place_key other key) false old) own
    ∙ ap (λ (b : Bool). cond (has_key key c) false b) held
    ∙ sym (any_without key c rows)
    ∙ sym (ap (λ (l : List Candidate). list_any (has_key key) l) kept)

-- an address is that of a candidate where it is so with one of the protocols
abbrev hits : Protocol → ℕ → Bool → Bool
hits proto n same = (protocol_number proto == n) && same

hit_once : (proto : Protocol) (same p q r s : Bool) → ((((hits proto 0 same || p) || (hits proto 1 same || q)) || (hits proto 2 same || r)) || (hits proto 3 same || s)) ≡ (same || (((p || q) || r) || s))
hit_once Udp true p q r s = refl
hit_once Udp false p q r s = refl
hit_once Tcp true true q r s = refl
hit_once Tcp true false q r s = refl
hit_once Tcp false p q r s = refl
hit_once SslTcp true true q r s = refl
hit_once SslTcp true false true r s = refl
hit_once SslTcp true false false r s = refl
hit_once SslTcp false p q r s = refl
hit_once Tls true true q r s = refl
hit_once Tls true false true r s = refl
hit_once Tls true false false true s = refl
hit_once Tls true false false false s = refl
hit_once Tls false p q r s = refl

pub viable_found : (a : Addr) (rows : List Candidate) → (((list_any (has_key (key_with 0 (addr_key a))) rows || list_any (has_key (key_with 1 (addr_key a))) rows)
    || list_any (has_key (key_with 2 (addr_key a))) rows) || list_any (has_key (key_with 3 (addr_key a))) rows) ≡ has_viable a rows
viable_found a [] = refl
viable_found a (x ∷ xs) =
    hit_once x.proto (is_same_addr x.addr a) (list_any (has_key (key_with 0 (addr_key a))) xs) (list_any (has_key (key_with 1 (addr_key a))) xs)
    (list_any (has_key (key_with 2 (addr_key a))) xs) (list_any (has_key (key_with 3 (addr_key a))) xs)
    ∙ ap (λ (b : Bool). is_same_addr x.addr a || b) (viable_found a xs)

pub all_viable : (a : Addr) (key : AddrKey) (rows : List Candidate) (p q r s t : Bool) → key ≡ addr_key a → p ≡ list_any (has_key (key_with 0 key)) rows → q ≡ list_any (has_key (key_with 1 key)) rows
    → r ≡ list_any (has_key (key_with 2 key)) rows → s ≡ list_any (has_key (key_with 3 key)) rows → t ≡ (((p || q) || r) || s) → t ≡ has_viable a rows
all_viable a key rows p q r s t own udp tcp ssl tls is =
    is
    ∙ ap (λ (b : Bool). ((b || q) || r) || s) udp
    ∙ ap (λ (b : Bool). ((list_any (has_key (key_with 0 key)) rows || b) || r) || s) tcp
    ∙ ap (λ (b : Bool). ((list_any (has_key (key_with 0 key)) rows || list_any (has_key (key_with 1 key)) rows) || b) || s) ssl
    ∙ ap (λ (b : Bool). ((list_any (has_key (key_with 0 key)) rows || list_any (has_key (key_with 1 key)) rows) || list_any (has_key (key_with 2 key)) rows) || b) tls
    ∙ ap (λ (k : AddrKey). ((list_any (has_key (key_with 0 k)) rows || list_any (has_key (key_with 1 k)) rows) || list_any (has_key (key_with 2 k)) rows) || list_any (has_key (key_with 3 k)) rows) own
    ∙ viable_found a rows

-- a call that ended well did what it says
pub if_ok : {T E : Type 0} (P : Type 0) (r : Result T E) → IsOk r → IfOk r (λ _. P) → P
if_ok P (Ok x) i h = h
if_ok P (Err e) i h = grind (arith, common_steps)

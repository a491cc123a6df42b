-- Fields that are written one after the other, and what they stand for.
use Rattle.std.proofs.Common.{◌≡◌, ℕ, zero, suc, ◌+◌, ◌^◌, ◌<◌, Bool, true, false, cond, eqb, List, [], ◌∷◌, ◌++◌, length, set, map, Option, None, refl, sym, ap, subst, ◌∙◌}
use Rattle.std.specs.Prelude.{is_some, ◌&&◌}
use Rattle.std.specs.List.{filter_map, cons_option}
use Rattle.std.proofs.lemmas.Bool.{cond-true, cond-false, cond_both}
use Rattle.std.proofs.lemmas.List.{append-nil, map-append, set-get_or}
use Rattle.std.proofs.lemmas.List.Elements.{filter_map-append}
use Rattle.proto_wire.specs.declared.field.WireFault.{WireFault}
use Rattle.proto_wire.specs.Fields.{Varint, Field}
use Rattle.proto_wire.specs.Written.{IsNumber, varint_field, block_field, message_field, varint_read, block_read, varints_read, blocks_read}
use Rattle.proto_wire.specs.Reading.{block_in, embedded}
use Rattle.proto_wire.proofs.FieldTrip.{Spells, Spells-nil, Spells-append, Spells-varint, Spells-block, Spells-message, Spells-whole}
use Rattle.group_msgs.specs.Known.{Known, known_of, u64_at, bytes_at}
use Rattle.group_msgs.specs.Reading.{is_listed, listed_in, listed_fault}
use Rattle.group_msgs.proofs.KnownLemmas.{known-varint, known-block}
use Rattle.group_msgs.proofs.MemberLemmas.{listed_in-skip, listed_in-push}

-- one scalar more
abbrev pub with_varint : (number n : ℕ) → Known → Known
with_varint number n x = record { varints = set x.varints number n; blocks = x.blocks }

abbrev pub with_block : (number : ℕ) → List ℕ → Known → Known
with_block number block x = record { varints = x.varints; blocks = set x.blocks number block }

-- what bytes at an offset stand for: fields with these scalars and these listed messages, and no fault inside
pub record Writes (member at : ℕ) (bytes : List ℕ) (x : Known) (listed : List Known) : Type 0 where
  pub fields : List Field
  pub spells : Spells at bytes fields
  pub known : known_of fields ≡ x
  pub items : map known_of (listed_in member fields) ≡ listed
  pub whole : filter_map (listed_fault member) fields ≡ []

pub writes-nothing : (member at : ℕ) → Writes member at [] (known_of []) []
writes-nothing member at = record { fields = []; spells = Spells-nil at; known = refl; items = refl; whole = refl }

pub writes-along : (member at : ℕ) (bytes more : List ℕ) (x : Known) (listed : List Known) → bytes ≡ more → Writes member at bytes x listed → Writes member at more x listed
writes-along member at bytes more x listed same w = subst (λ (b : List ℕ). Writes member at b x listed) same w

-- ---- one more field

no_message : (b : Bool) → (b && false) ≡ false
no_message true = refl
no_message false = refl

varint-listed : (member : ℕ) (f : Field) (n : ℕ) → f.content ≡ Varint n → is_listed member f ≡ false
varint-listed member f n is =
    let none : is_some (block_in f.content) ≡ false = ap (λ c. is_some (block_in c)) is in
    cond_both (eqb member 4) (eqb f.number 3 && is_some (block_in f.content)) (cond (eqb member 7) (eqb f.number 10 && is_some (block_in f.content)) false) (λ b. b ≡ false) (λ _. ap (λ (b : Bool). eqb f.number 3 && b) none ∙ no_message (eqb f.number 3))
    (λ _. cond_both (eqb member 7) (eqb f.number 10 && is_some (block_in f.content)) false (λ b. b ≡ false) (λ _. ap (λ (b : Bool). eqb f.number 10 && b) none ∙ no_message (eqb f.number 10)) (λ _. refl))

-- a field that lists no message
whole-skip : (member : ℕ) (fs : List Field) (f : Field) → is_listed member f ≡ false → filter_map (listed_fault member) fs ≡ [] → filter_map (listed_fault member) (fs ++ f ∷ []) ≡ []
whole-skip member fs f other whole =
    filter_map-append (listed_fault member) fs (f ∷ []) ∙ ap (λ (es : List WireFault). es ++ filter_map (listed_fault member) (f ∷ [])) whole ∙ ap (λ (o : Option WireFault). cons_option o []) (cond-false (is_listed member f) (embedded f).fault None other)

module _ (member at : ℕ) (bytes : List ℕ) (x : Known) (listed : List Known) (w : Writes member at bytes x listed) where
  -- the default writes nothing
  same_varint : (number : ℕ) → u64_at number x ≡ 0 → x ≡ with_varint number 0 x
  same_varint number zero-is = ap (λ (vs : List ℕ). record { varints = vs; blocks = x.blocks }) (sym (ap (set x.varints number) (sym zero-is) ∙ set-get_or x.varints number 0))

  varint_step : (number n : ℕ) (f-at : ℕ) → number < 10 → u64_at number x ≡ 0 → Spells f-at (varint_field number n) (varints_read f-at number n) → f-at ≡ at + length bytes → Writes member at (bytes ++ varint_field number n) (with_varint number n x) listed
  varint_step number zero f-at low zero-is spells here = writes-along member at bytes (bytes ++ []) (with_varint number 0 x) listed (sym (append-nil bytes)) (subst (λ (y : Known). Writes member at bytes y listed) (same_varint number zero-is) w)
  varint_step number (suc n) f-at low zero-is spells here =
      let f = varint_read f-at number (suc n) in
      let other = varint-listed member f (suc n) refl in
      record {
        fields = w.fields ++ f ∷ [];
        spells = Spells-append at bytes (varint_field number (suc n)) w.fields (f ∷ []) w.spells (subst (λ (p : ℕ). Spells p (varint_field number (suc n)) (f ∷ [])) here spells);
        known = sym (known-varint x w.fields f (suc n) refl low (sym w.known));
        items = ap (map known_of) (listed_in-skip member w.fields f other) ∙ w.items;
        whole = whole-skip member w.fields f other w.whole;
      }

  pub writes-varint : (number n : ℕ) → IsNumber number → number < 10 → n < 2 ^ 64 → u64_at number x ≡ 0 → Writes member at (bytes ++ varint_field number n) (with_varint number n x) listed
  writes-varint number n is low below zero-is = varint_step number n (at + length bytes) low zero-is (Spells-varint (at + length bytes) number n is below) refl

  same_block : (number : ℕ) → bytes_at number x ≡ [] → x ≡ with_block number [] x
  same_block number none = ap (λ (bs : List (List ℕ)). record { varints = x.varints; blocks = bs }) (sym (ap (set x.blocks number) (sym none) ∙ set-get_or x.blocks number []))

  block_step : (number : ℕ) (block : List ℕ) (f-at : ℕ) → number < 7 → bytes_at number x ≡ [] → is_listed member (block_read f-at number block) ≡ false → Spells f-at (block_field number block) (blocks_read f-at number block) → f-at ≡ at + length bytes
      → Writes member at (bytes ++ block_field number block) (with_block number block x) listed
  block_step number [] f-at low none other spells here = writes-along member at bytes (bytes ++ []) (with_block number [] x) listed (sym (append-nil bytes)) (subst (λ (y : Known). Writes member at bytes y listed) (same_block number none) w)
  block_step number (b ∷ block) f-at low none other spells here =
      let f = block_read f-at number (b ∷ block) in
      record {
        fields = w.fields ++ f ∷ [];
        spells = Spells-append at bytes (block_field number (b ∷ block)) w.fields (f ∷ []) w.spells (subst (λ (p : ℕ). Spells p (block_field number (b ∷ block)) (f ∷ [])) here spells);
        known = sym (known-block x w.fields f (b ∷ block) refl low (sym w.known));
        items = ap (map known_of) (listed_in-skip member w.fields f other) ∙ w.items;
        whole = whole-skip member w.fields f other w.whole;
      }

  pub writes-block : (number : ℕ) (block : List ℕ) → IsNumber number → number < 7 → length block < 2 ^ 64 → bytes_at number x ≡ [] → ((p : ℕ) → is_listed member (block_read p number block) ≡ false) → Writes member at (bytes ++ block_field number block) (with_block number block x) listed
  writes-block number block is low below none other = block_step number block (at + length bytes) low none (other (at + length bytes)) (Spells-block (at + length bytes) number block is below) refl

  -- a listed message, which reads as it was written wherever it stands
  pub writes-item : (number : ℕ) (item : List ℕ) (y z : Known) → IsNumber number → length item < 2 ^ 64 → ((p : ℕ) → is_listed member (block_read p number item) ≡ true) → ((p : ℕ) → Writes 0 p item y [])
      → ((fs : List Field) (p : ℕ) → x ≡ known_of fs → z ≡ known_of (fs ++ block_read p number item ∷ [])) → Writes member at (bytes ++ message_field number item) z (listed ++ y ∷ [])
  writes-item number item y z is below one inner more =
      let p = at + length bytes in
      let f = block_read p number item in
      let v = inner f.content_at in
      let whole = Spells-whole f.content_at item v.fields v.spells in
      let fields : known_of (embedded f).fields ≡ y = ap known_of whole.0 ∙ v.known in
      record {
        fields = w.fields ++ f ∷ [];
        spells = Spells-append at bytes (message_field number item) w.fields (f ∷ []) w.spells (Spells-message p number item is below);
        known = sym (more w.fields p (sym w.known));
        items = ap (map known_of) (listed_in-push member w.fields f (one p)) ∙ map-append known_of (listed_in member w.fields) ((embedded f).fields ∷ []) ∙ ap (λ (ys : List Known). ys ++ known_of (embedded f).fields ∷ []) w.items ∙ ap (λ (k : Known). listed ++ k ∷ []) fields;
        whole = filter_map-append (listed_fault member) w.fields (f ∷ []) ∙ ap (λ (es : List WireFault). es ++ filter_map (listed_fault member) (f ∷ [])) w.whole ∙ ap (λ (o : Option WireFault). cons_option o []) (cond-true (is_listed member f) (embedded f).fault None (one p) ∙ whole.1);
      }

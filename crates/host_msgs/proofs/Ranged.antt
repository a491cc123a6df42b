-- What is in its ranges is of the grammar.
use Rattle.std.proofs.Common.{◌≡◌, ℕ, ◌^◌, true, cond, List, [], ◌∷◌, Option, Result, Ok, Err, refl, sym, arith}
use Rattle.std.specs.Prelude.{◌&&◌, All, OnOk}
use Rattle.std.specs.Int.{w8}
use Rattle.std.proofs.lemmas.List.Elements.{All-head, All-tail}
use Rattle.fixed_fields.specs.Formats.{IsOfWidth, AreWords, AreFewWords}
use Rattle.group_quorum.specs.Conf.{Conf}
use Rattle.group_quorum.specs.Voters.{IsId, IsSound}
use Rattle.group_quorum.proofs.Made.{sound_faultless}
use Rattle.client_msgs.specs.Strict.{is_canonical}
use Rattle.host_msgs.specs.Items.{is_conf}
use Rattle.host_msgs.specs.Wrapped.{is_request}
use Rattle.host_msgs.proofs.Configurations.{is_rising-from}

-- ---- ids

pub words_of : (ids : List ℕ) → All IsId ids → AreWords ids
words_of [] h = tt
words_of (v ∷ ids) h = (omega (arith, (All-head IsId v ids h).1), words_of ids (All-tail IsId v ids h))

-- ---- configurations

pub sound_conf : (margin : ℕ) (voters : List ℕ) → IsSound (record { margin = margin; voters = voters }) → is_conf margin voters ≡ true
unfolding is_conf
sound_conf margin voters is = rw (sound_faultless (record { margin = margin; voters = voters }) is, is_rising-from voters is.in_order) refl

pub sound_margin : (margin : ℕ) (voters : List ℕ) → IsSound (record { margin = margin; voters = voters }) → IsOfWidth w8 margin
sound_margin margin voters is = omega (arith, is.at_most, is.enough)

pub sound_words : (margin : ℕ) (voters : List ℕ) → IsSound (record { margin = margin; voters = voters }) → AreFewWords voters
sound_words margin voters is = (omega (arith, is.at_most), words_of voters is.ids)

pub request_from : (bytes : List ℕ) → is_canonical bytes ≡ true → is_request bytes ≡ true
unfolding is_request
request_from bytes e = e

-- what holds in any case holds of what was written
pub on_ok : {T E : Type 0} {P : Type 0} (r : Result T E) → P → OnOk r P
on_ok (Ok x) p = p
on_ok (Err e) p = tt

pub on_ok_both : {T E : Type 0} (P Q : Type 0) (r : Result T E) → OnOk r P → OnOk r Q → OnOk r (P × Q)
on_ok_both P Q (Ok x) p q = (p, q)
on_ok_both P Q (Err e) p q = tt

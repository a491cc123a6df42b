-- The definitions, run on short lists of asks.
use Rattle.std.proofs.Common.{◌≡◌, ℕ, zero, suc, List, [], ◌∷◌, ◌++◌, map, length, replicate, refl}
use Rattle.std.specs.Prelude.{Option, Some, None}
use Rattle.values.specs.declared.entry.Hash.{Hash}
use Rattle.values.specs.declared.ids.ClientId.{ClientId}
use Rattle.values.specs.declared.message.Request.{Request}
use Rattle.values.specs.declared.message.Request.TheVariants.{Backup, Restore, Delete, Expose}
use Rattle.values.specs.declared.message.Response.{Response}
use Rattle.values.specs.declared.message.Response.TheVariants.{Backup as BackedUp, Restore as Restored, Delete as Deleted, Expose as Exposed}
use Rattle.values.specs.declared.message.Reply.{Reply}
use Rattle.values.specs.declared.message.Reply.TheVariants.{Applied, Stale, TableFull}
use Rattle.record_rules.specs.Places.{ClientAsk, Places, fold_places, reply_at, wrong_guesses}

abbrev client : ℕ → ClientId
client n = record { 0 = replicate 15 0 ++ n ∷ [] }

abbrev secret : List ℕ
secret = replicate 16 170

abbrev other_secret : List ℕ
other_secret = replicate 16 187

abbrev pin : Hash
pin = record { 0 = replicate 32 17 }

abbrev other_pin : Hash
other_pin = record { 0 = replicate 32 34 }

abbrev backup : Request
backup = Backup secret pin 3

abbrev ask : ℕ → ℕ → Request → Option ClientAsk
ask c number request = Some (record { client = client c; number = number; request = request })

abbrev replies_up_to : ℕ → Places → ℕ → List (Option Reply)
replies_up_to limit places zero = []
replies_up_to limit places (suc k) = replies_up_to limit places k ++ reply_at limit places (suc k) ∷ []

abbrev replies : ℕ → Places → List (Option Reply)
replies limit places = replies_up_to limit places (length places)

abbrev done : Response → Option Reply
done response = Some (Applied response)

-- an unexposed record is not given, and an expose of another secret does nothing
unexposed : replies 10 (ask 1 1 backup ∷ ask 1 2 (Restore pin) ∷ ask 1 3 (Expose other_secret) ∷ ask 1 4 (Expose secret) ∷ ask 1 5 (Restore pin) ∷ [])
    ≡ done (BackedUp 1) ∷ done (Restored 2 [] 0) ∷ done (Exposed 2) ∷ done (Exposed 1) ∷ done (Restored 1 secret 3) ∷ []
unexposed = refl

abbrev guesses : List Request → Places
guesses requests = numbered 1 (backup ∷ Expose secret ∷ requests)
  where
    numbered : ℕ → List Request → Places
    numbered number [] = []
    numbered number (r ∷ rs) = ask 1 number r ∷ numbered (suc number) rs

-- at the third wrong guess of three the record is gone
three_wrong : replies 10 (guesses (Restore other_pin ∷ Restore other_pin ∷ Restore other_pin ∷ Restore pin ∷ []))
    ≡ done (BackedUp 1) ∷ done (Exposed 1) ∷ done (Restored 3 [] 2) ∷ done (Restored 3 [] 1) ∷ done (Restored 3 [] 0) ∷ done (Restored 2 [] 0) ∷ []
three_wrong = refl

-- a right guess takes no try
two_wrong : replies 10 (guesses (Restore other_pin ∷ Restore other_pin ∷ Restore pin ∷ Restore pin ∷ []))
    ≡ done (BackedUp 1) ∷ done (Exposed 1) ∷ done (Restored 3 [] 2) ∷ done (Restored 3 [] 1) ∷ done (Restored 1 secret 1) ∷ done (Restored 1 secret 1) ∷ []
two_wrong = refl

-- a repeated number acts on nothing, and numbers stay after a delete
abbrev numbers : Places
numbers =
    ask 1 5 backup ∷ ask 1 6 (Expose secret) ∷ ask 1 7 (Restore other_pin) ∷ ask 1 8 (Restore other_pin) ∷ ask 1 5 backup ∷ ask 1 9 (Restore pin)
    ∷ ask 1 18446744073709551615 Delete ∷ None ∷ ask 1 18446744073709551615 backup ∷ []

repeated : replies 10 numbers
    ≡ done (BackedUp 1) ∷ done (Exposed 1) ∷ done (Restored 3 [] 2) ∷ done (Restored 3 [] 1) ∷ Some (Stale 8) ∷ done (Restored 1 secret 1)
    ∷ done Deleted ∷ None ∷ Some (Stale 18446744073709551615) ∷ []
repeated = refl

repeated_table : fold_places 10 numbers ≡ record { limit = 10; rows = record { client = client 1; last = 18446744073709551615; kept = None } ∷ [] }
repeated_table = refl

repeated_guesses : wrong_guesses 10 numbers (client 1) 1 9 ≡ 2
repeated_guesses = refl

-- a second client finds no room where one row is the limit
full : replies 1 (ask 1 1 backup ∷ ask 2 1 backup ∷ ask 2 1 (Restore pin) ∷ ask 1 2 Delete ∷ ask 2 2 backup ∷ [])
    ≡ done (BackedUp 1) ∷ Some (TableFull 1) ∷ done (Restored 2 [] 0) ∷ done Deleted ∷ Some (TableFull 1) ∷ []
full = refl

-- rows stand in the order of their clients, whatever the order of the asks
in_order : map (λ row. row.client) (fold_places 3 (ask 2 1 backup ∷ ask 3 1 backup ∷ ask 1 1 backup ∷ ask 2 2 Delete ∷ [])).rows
    ≡ client 1 ∷ client 2 ∷ client 3 ∷ []
in_order = refl

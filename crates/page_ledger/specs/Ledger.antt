-- What a ledger keeps.
use Rattle.page_ledger.specs.declared.accounts.Ledger.TheInside.{Inside}
use Rattle.plan_rules.specs.Accounts.{Accounts, AreSoundAccounts}

-- the accounts that a ledger keeps
abbrev pub accounts_of : Inside → Accounts
accounts_of ledger = record {
  plan = ledger.plan;
  spare = ledger.spare;
  balances = ledger.balances.items;
  holds = ledger.holds.items;
  reserves = ledger.reserves.items;
}

-- a ledger's accounts are sound
abbrev pub IsSoundLedger : Inside → Type 0
IsSoundLedger ledger = AreSoundAccounts (accounts_of ledger)

-- What a run has a limit of.

pub data Quantity : Type 0 where
  Events : Quantity
  Messages : Quantity
  Answers : Quantity
  Replicas : Quantity
  States : Quantity
  Clients : Quantity

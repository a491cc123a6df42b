use Rattle.group_world.proofs.world.World.tell_event.Goals as goal

pub returns-in-Tick-clause-does : goal.returns-in-Tick-clause-does
returns-in-Tick-clause-does g c = rw c.in-Tick.is c.tell_input.ensures.does

pub returns-in-Save-clause-does : goal.returns-in-Save-clause-does
returns-in-Save-clause-does g c = rw c.in-Save.is c.tell_input-in-Save.ensures.does

pub returns-in-Join-clause-does : goal.returns-in-Join-clause-does
returns-in-Join-clause-does g c = rw c.in-Join.is c.tell_input-in-Join.ensures.does

pub returns-in-Admit-clause-does : goal.returns-in-Admit-clause-does
returns-in-Admit-clause-does g c = rw c.in-Admit.is c.tell_input-in-Admit.ensures.does

pub returns-in-Remove-clause-does : goal.returns-in-Remove-clause-does
returns-in-Remove-clause-does g c = rw c.in-Remove.is c.tell_input-in-Remove.ensures.does

pub returns-in-Margin-clause-does : goal.returns-in-Margin-clause-does
returns-in-Margin-clause-does g c = rw c.in-Margin.is c.tell_input-in-Margin.ensures.does

pub returns-in-Ask-clause-does : goal.returns-in-Ask-clause-does
returns-in-Ask-clause-does g c = rw c.in-Ask.is (rw c.as_slice.ensures at c.hand_request.ensures.does)

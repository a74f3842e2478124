mod OnceFacts
mod RoomFacts
mod UsedFacts
mod NextFacts
mod RefusedFacts
mod OpensFacts
mod Ends
mod OnlyUsed

mod Words
mod ShownFront
